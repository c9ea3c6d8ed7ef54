-- A conflict above the first level: the clause that is learned from it, back to the level where it forces its first literal, and that literal made
-- true by it. Definitions only, total on any table.
use Rattle.std.specs.Prelude.{ℕ, ◌-◌, List, Some, nat_lt}
use Rattle.formula.specs.Logic.{pick}
use Rattle.cdcl.specs.Work.{learned_lits}
use Rattle.cdcl.specs.Vsids.{grown}
use Rattle.cdcl.specs.Assignment.{enqueue, backjump}
use Rattle.cdcl.specs.Analysis.{learned_len, learned_lit, highest, analyzed, clause_level, last_first, minimized, second_highest}
use Rattle.cdcl.specs.Clauses.{next_clause, has_room, stored, attached}

-- THE CLAUSE: the walk at the conflict's own level, its last literal first, minimized, and one of the highest level second
unfoldable pub lesson : List ℕ → ℕ → List ℕ
lesson w c = second_highest (minimized (clause_level w c) (last_first (analyzed (clause_level w c) w c)))

-- THE LEVEL TO GO BACK TO: the highest of its literals but the first
abbrev pub jump_level : List ℕ → ℕ
jump_level w = highest learned_lits (learned_len w - 1) 1 w

-- the clause stored, watched if it has two literals, and its first literal true by it
abbrev pub kept : List ℕ → List ℕ
kept w = pick (nat_lt 1 (learned_len w)) (attached (stored w) (next_clause w)) (stored w)

abbrev pub with_lesson : List ℕ → List ℕ
with_lesson w = enqueue (kept w) (learned_lit w 0) (Some (next_clause w))

-- a clause that has no room is forgotten
abbrev pub taken : List ℕ → List ℕ
taken w = pick (has_room w) (with_lesson w) w

unfoldable pub learn_from : List ℕ → ℕ → List ℕ
learn_from w c = grown (taken (backjump (lesson w c) (jump_level (lesson w c))))
