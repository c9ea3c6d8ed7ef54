-- The tables by name: which part of a state each is, that state with another row in its place, and where it lies in memory.
-- Definitions only.
use Rattle.std.specs.Prelude.{ℕ, List}
use Rattle.solver.specs.declared.tables.Table.{Table}
use Rattle.solver.specs.declared.tables.Table.TheVariants.{Scalars, Assumptions, Core, Model, Arena, Work}
use Rattle.solver.specs.State.{State, with_scalars, with_assumptions, with_core, with_model, with_arena, with_work}

abbrev pub table_of : State → Table → List ℕ
table_of s Scalars = s.scalars
table_of s Assumptions = s.assumptions
table_of s Core = s.core
table_of s Model = s.model
table_of s Arena = s.arena
table_of s Work = s.work

abbrev pub with_table : State → Table → List ℕ → State
with_table s Scalars t = with_scalars s t
with_table s Assumptions t = with_assumptions s t
with_table s Core t = with_core s t
with_table s Model t = with_model s t
with_table s Arena t = with_arena s t
with_table s Work t = with_work s t

abbrev pub start_of : Table → ℕ
start_of Scalars = 0
start_of Assumptions = 256
start_of Core = 1280
start_of Model = 2304
start_of Arena = 18688
start_of Work = 100608

abbrev pub end_of : Table → ℕ
end_of Scalars = 256
end_of Assumptions = 1280
end_of Core = 2304
end_of Model = 18688
end_of Arena = 100608
end_of Work = 524288
