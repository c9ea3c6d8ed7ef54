-- Clauses added: what is learned gets the next number, its first two literals watched, and its first literal is made true by it.
-- Definitions only, total on any table.
use Rattle.std.specs.Prelude.{ℕ, ◌+◌, ◌*◌, min, Bool, ◌&&◌, List, nat_le, nat_lt}
use Rattle.cdcl.specs.declared.scalar.Scalar.TheVariants.{NumClauses}
use Rattle.cdcl.specs.Work.{put, for_each, starts, lits}
use Rattle.cdcl.specs.Scalars.{scalar, with_scalar}
use Rattle.cdcl.specs.Watch.{start_of, watch_of, slot_at, in_front}
use Rattle.cdcl.specs.Analysis.{learned_len, learned_lit}

-- so many clauses there are; the next has room if there is a number for it and for its end, and places for its literals
abbrev pub num_clauses : List ℕ → ℕ
num_clauses w = min (scalar w NumClauses) 20478

abbrev pub with_num_clauses : List ℕ → ℕ → List ℕ
with_num_clauses w n = with_scalar w NumClauses n

abbrev pub next_clause : List ℕ → ℕ
next_clause w = num_clauses w + 1

abbrev pub has_room : List ℕ → Bool
has_room w = nat_lt (num_clauses w) 20478 && nat_le (start_of w (next_clause w) + learned_len w) 106752

-- what is learned, to place k of the clauses' literals and on
abbrev pub copied : ℕ → List ℕ → List ℕ
copied k w = for_each (λ v i. put lits v (k + i) (learned_lit v i)) (learned_len w) w

unfoldable pub stored : List ℕ → List ℕ
stored w =
    with_num_clauses (put starts (copied (start_of w (next_clause w)) w) (next_clause w + 1) (start_of w (next_clause w) + learned_len w)) (next_clause w)

-- a slot comes to the front of the list of the literal that it watches
abbrev pub watched : List ℕ → ℕ → List ℕ
watched w x = in_front w (watch_of w x) x (slot_at w (watch_of w x))

unfoldable pub attached : List ℕ → ℕ → List ℕ
attached w c = watched (watched w (2 * c)) (2 * c + 1)
