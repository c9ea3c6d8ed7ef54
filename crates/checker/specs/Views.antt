-- What a reader holds, as the definitions of reading have it.
use Rattle.std.specs.Prelude.{map, vec_items}
use Rattle.checker.specs.declared.lexer.Lexer.{Lexer}
use Rattle.checker.specs.declared.reader.Reader.{Reader}
use Rattle.checker.specs.Input.{step_of}
use Rattle.checker.specs.Reading.{Building, building}

abbrev pub building_of : Reader → Building
building_of r = building (map step_of (vec_items r.steps)) r.action (vec_items r.part)

abbrev pub state_of : Reader → Lexer × Building
state_of r = (r.lexer, building_of r)
