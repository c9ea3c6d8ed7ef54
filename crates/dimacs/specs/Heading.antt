-- The header's line as code reads it, word by word.
-- Definitions only; proofs/Headings.antt shows that they come to the header of Text.
use Rattle.std.specs.Prelude.{ℕ, Bool, not, List, [], ◌∷◌, length, take, drop, Some, None, Ok, Err, Option, Result, ◌==◌, nat_eq, nat_lt, codes}
use Rattle.std.specs.List.{position_or_len}
use Rattle.std.specs.Cmp.Lexicographic.{pointwise}
use Rattle.formula.specs.Logic.{pick}
use Rattle.dimacs.specs.Text.{is_blank, word_number}
use Rattle.dimacs.specs.declared.read.Fault.{Fault}
use Rattle.dimacs.specs.declared.read.Fault.TheVariants.{TooLarge, BadHeader}
use Rattle.dimacs.specs.declared.header.Promise.{Promise}

-- a row from its first word on, that word, and what is behind it
abbrev pub unblanked : List ℕ → List ℕ
unblanked xs = drop (position_or_len (λ b. not (is_blank b)) xs) xs

unfoldable pub first_word : List ℕ → List ℕ
first_word xs = take (position_or_len is_blank (unblanked xs)) (unblanked xs)

unfoldable pub after_word : List ℕ → List ℕ
after_word xs = drop (position_or_len is_blank (unblanked xs)) (unblanked xs)

abbrev pub first_of : List ℕ → Option ℕ
first_of [] = None
first_of (x ∷ xs) = Some x

abbrev pub by_some : {A : Type 0} → Option ℕ → A → (ℕ → A) → A
by_some None a f = a
by_some (Some n) a f = f n

abbrev pub numbers_read : List ℕ → List ℕ → Bool → ℕ → Result Promise Fault
numbers_read v c last line =
    by_some (first_of (word_number v)) (Err (BadHeader line))
    (λ n. pick (nat_lt 16384 n) (Err (TooLarge line))
    (by_some (first_of (word_number c)) (Err (BadHeader line)) (λ k. pick last (Ok (record { vars = n; clauses = k })) (Err (BadHeader line)))))

abbrev pub words_read : List ℕ → ℕ → Result Promise Fault
words_read xs line =
    pick (pointwise nat_eq (first_word xs) (codes "cnf"))
    (numbers_read (first_word (after_word xs)) (first_word (after_word (after_word xs))) (length (first_word (after_word (after_word (after_word xs)))) == 0) line)
    (Err (BadHeader line))

abbrev pub heading_read : List ℕ → ℕ → Result Promise Fault
heading_read row line = pick (pointwise nat_eq (take 2 row) (codes "p ")) (words_read (drop 2 row) line) (Err (BadHeader line))
