-- Files as they are met, and what the reader of the definitions says of each: the clauses, or what is wrong with which numbers.
-- Every rule of the text form and every number of a refusal has a row. Definitions only; `file_rows_hold` promises them all.
use Rattle.std.specs.Prelude.{◌≡◌, ℕ, List, [], ◌∷◌, codes}
use Prim.Native.String.{String}
use Rattle.formula.specs.Logic.{Clause}
use Rattle.formula.specs.Examples.{pos, neg}
use Rattle.dimacs.specs.Text.{Reader, goes_on, wrong, file_read}

-- a file of this text is read, as these clauses
abbrev pub Reads : String → List Clause → Type 0
Reads text cs = (r : Reader) × (file_read (codes text) ≡ goes_on r) × (r.read_clauses ≡ cs)

-- a file of this text is refused
abbrev pub Refused : String → ℕ → List ℕ → Type 0
Refused text k ns = file_read (codes text) ≡ wrong k ns

-- BLANKS AND LINES
pub record BlankRows : Type 0 where
  pub empty_file : Reads "" []
  pub blank_lines : Reads " \n\n  \n" []
  pub one_clause : Reads "1 -2 0\n" ((pos 1 ∷ neg 2 ∷ []) ∷ [])
  pub no_newline_at_end : Reads "1 -2 0" ((pos 1 ∷ neg 2 ∷ []) ∷ [])
  pub many_blanks : Reads "   1    -2  0   \n" ((pos 1 ∷ neg 2 ∷ []) ∷ [])
  pub two_on_a_line : Reads "1 0 -2 0\n" ((pos 1 ∷ []) ∷ (neg 2 ∷ []) ∷ [])
  pub over_several_lines : Reads "1\n-2\n\n 3\n0\n" ((pos 1 ∷ neg 2 ∷ pos 3 ∷ []) ∷ [])
  pub carriage_returns : Reads "1 0\r2\r3 0\r" ((pos 1 ∷ []) ∷ (pos 2 ∷ pos 3 ∷ []) ∷ [])
  pub both_line_ends : Reads "1 0\r\n2\r\n3 0\r\n" ((pos 1 ∷ []) ∷ (pos 2 ∷ pos 3 ∷ []) ∷ [])
  pub tab_in_clause : Refused "1\t2 0\n" 20 (1 ∷ 9 ∷ [])
  pub tab_on_line_three : Refused "1 0\n2 0\n\t3 0\n" 20 (3 ∷ 9 ∷ [])
  pub vertical_tab_in_clause : Refused "1\u{b}0\n" 20 (1 ∷ 11 ∷ [])

-- COMMENTS, from a line's start to its end
pub record CommentRows : Type 0 where
  pub comments_everywhere : Reads "c a\n1 0\nc b 7 0\n2 0\nc c" ((pos 1 ∷ []) ∷ (pos 2 ∷ []) ∷ [])
  pub comment_without_text : Reads "c\n1 0\n" ((pos 1 ∷ []) ∷ [])
  pub comment_in_clause : Reads "1\nc 5 0\n2 0\n" ((pos 1 ∷ pos 2 ∷ []) ∷ [])
  pub comment_ended_by_return : Reads "c 5 0\r1 0\n" ((pos 1 ∷ []) ∷ [])
  pub only_a_comment : Reads "c nothing" []
  pub comment_behind_blank : Refused " c a\n1 0\n" 20 (1 ∷ 99 ∷ [])
  pub comment_behind_clause : Refused "1 0\n2 0 c a\n" 20 (2 ∷ 99 ∷ [])

-- THE HEADER: a line that can stand anywhere, once
-- A newline counts before its line is judged: what it shows to be wrong has the next line's number.
pub record HeaderRows : Type 0 where
  pub header_first : Reads "p cnf 2 2\n1 0\n2 0\n" ((pos 1 ∷ []) ∷ (pos 2 ∷ []) ∷ [])
  pub header_between : Reads "1 0\np cnf 2 2\n2 0\n" ((pos 1 ∷ []) ∷ (pos 2 ∷ []) ∷ [])
  pub header_in_clause : Reads "1\np cnf 2 1\n2 0\n" ((pos 1 ∷ pos 2 ∷ []) ∷ [])
  pub header_last : Reads "1 0\n2 0\np cnf 2 2\n" ((pos 1 ∷ []) ∷ (pos 2 ∷ []) ∷ [])
  pub header_at_file_end : Reads "1 0\n2 0\np cnf 2 2" ((pos 1 ∷ []) ∷ (pos 2 ∷ []) ∷ [])
  pub no_clauses : Reads "p cnf 0 0\n" []
  pub fewer_variables : Reads "p cnf 9 1\n1 2 0\n" ((pos 1 ∷ pos 2 ∷ []) ∷ [])
  pub header_blanks : Reads "p  cnf\t2\u{b} \u{c}1 \t\n1 2 0\n" ((pos 1 ∷ pos 2 ∷ []) ∷ [])
  pub header_plus : Reads "p cnf +2 +1\n1 2 0\n" ((pos 1 ∷ pos 2 ∷ []) ∷ [])
  pub header_zeros : Reads "p cnf 002 01\n1 2 0\n" ((pos 1 ∷ pos 2 ∷ []) ∷ [])
  pub header_ended_by_return : Reads "p cnf 2 1\r1 2 0\n" ((pos 1 ∷ pos 2 ∷ []) ∷ [])
  pub most_variables : Reads "p cnf 16384 1\n1 0\n" ((pos 1 ∷ []) ∷ [])
  pub two_headers : Refused "p cnf 1 1\np cnf 1 1\n1 0\n" 20 (2 ∷ 112 ∷ [])
  pub header_behind_blank : Refused " p cnf 1 1\n1 0\n" 20 (1 ∷ 112 ∷ [])
  pub letter_alone : Refused "p\n1 0\n" 22 (2 ∷ [])
  pub letter_alone_at_end : Refused "1 0\np" 22 (2 ∷ [])  -- here the line is its own
  pub no_numbers : Refused "p cnf\n1 0\n" 22 (2 ∷ [])
  pub one_number : Refused "p cnf 1\n1 0\n" 22 (2 ∷ [])
  pub three_numbers : Refused "p cnf 1 1 1\n1 0\n" 22 (2 ∷ [])
  pub word_twice : Refused "p cnf cnf 1 1\n1 0\n" 22 (2 ∷ [])
  pub word_misspelt : Refused "p cfn 1 1\n1 0\n" 22 (2 ∷ [])
  pub capital_letters : Refused "p CNF 1 1\n1 0\n" 22 (2 ∷ [])
  pub no_blank_behind_letter : Refused "pcnf 1 1\n1 0\n" 22 (2 ∷ [])
  pub tab_behind_letter : Refused "p\tcnf 1 1\n1 0\n" 22 (2 ∷ [])  -- right behind the letter a tab is no blank
  pub plus_alone : Refused "p cnf + 1\n1 0\n" 22 (2 ∷ [])
  pub header_minus : Refused "p cnf -1 1\n1 0\n" 22 (2 ∷ [])
  pub bad_header_by_return : Refused "p cnf x 1\r1 0\n" 22 (1 ∷ [])  -- here too the line is its own
  pub too_many_variables : Refused "p cnf 16385 1\n1 0\n" 21 (2 ∷ [])
  pub too_many_and_no_more : Refused "p cnf 16385\n1 0\n" 21 (2 ∷ [])  -- too many variables come first, before what is missing behind them
  pub too_many_and_a_word : Refused "p cnf 16385 1 x\n1 0\n" 21 (2 ∷ [])
  pub variables_past_64_bits : Refused "p cnf 18446744073709551616 1\n1 0\n" 22 (2 ∷ [])  -- a number of 2 ^ 64 is no number
  pub clauses_past_64_bits : Refused "p cnf 1 18446744073709551616\n1 0\n" 22 (2 ∷ [])
  pub clauses_of_64_bits : Refused "p cnf 1 18446744073709551615\n1 0\n" 25 (1 ∷ 18446744073709551615 ∷ [])

-- NUMBERS
pub record NumberRows : Type 0 where
  pub largest_literals : Reads "16384 -16384 0\n" ((pos 16384 ∷ neg 16384 ∷ []) ∷ [])
  pub literal_too_large : Refused "1 0\n16385 0\n" 21 (2 ∷ [])
  pub negated_too_large : Refused "-16385 0\n" 21 (1 ∷ [])
  pub leading_zeros : Reads "007 -0016384 0\n" ((pos 7 ∷ neg 16384 ∷ []) ∷ [])
  pub empty_clause : Reads "0\n" ([] ∷ [])
  pub two_zeros : Reads "00 0\n" ([] ∷ [] ∷ [])
  pub zero_with_minus : Reads "1 -0 2 0\n" ((pos 1 ∷ []) ∷ (pos 2 ∷ []) ∷ [])  -- a minus before 0 is passed over
  pub minus_before_blank : Refused "- 1 0\n" 20 (1 ∷ 32 ∷ [])
  pub minus_before_newline : Refused "1 0\n-\n" 20 (3 ∷ 10 ∷ [])  -- with the next line's number
  pub minus_at_file_end : Reads "1 0\n-" ((pos 1 ∷ []) ∷ [])  -- a minus with nothing behind it is passed over
  pub two_minuses : Refused "--1 0\n" 20 (1 ∷ 45 ∷ [])
  pub minus_in_number : Refused "1 2-3 0\n" 20 (1 ∷ 45 ∷ [])
  pub minus_before_comment : Refused "-c a\n1 0\n" 20 (1 ∷ 99 ∷ [])
  pub plus_in_clause : Refused "+1 0\n" 20 (1 ∷ 43 ∷ [])
  pub letter_on_line_three : Refused "1 0\n2 0\n3 x 0\n" 20 (3 ∷ 120 ∷ [])
  pub letter_behind_returns : Refused "1 0\r2 0\r\n3 x 0\n" 20 (2 ∷ 120 ∷ [])  -- a carriage return alone counts no line
  pub byte_behind_digit : Refused "1p 0\n" 20 (1 ∷ 112 ∷ [])

-- AT THE END
pub record EndRows : Type 0 where
  pub no_last_zero : Refused "1 2" 23 (1 ∷ [])
  pub no_last_zero_on_line_four : Refused "1 0\n\n2 3\n" 23 (4 ∷ [])
  pub no_last_zero_with_minus : Refused "1 0\n2 -" 23 (2 ∷ [])
  pub more_variables : Refused "p cnf 2 1\n1 -7 0\n" 24 (7 ∷ 2 ∷ [])
  pub fewer_clauses : Refused "p cnf 2 3\n1 0\n2 0\n" 25 (2 ∷ 3 ∷ [])
  pub more_clauses : Refused "p cnf 2 1\n1 0\n2 0\n" 25 (2 ∷ 1 ∷ [])
  pub both_wrong : Refused "p cnf 1 2\n1 2 0\n" 24 (2 ∷ 1 ∷ [])  -- variables are looked at before clauses
  pub not_ended_first : Refused "p cnf 1 2\n1 2\n" 23 (3 ∷ [])

pub record FileRows : Type 0 where
  pub blanks : BlankRows
  pub comments : CommentRows
  pub headers : HeaderRows
  pub numbers : NumberRows
  pub ends : EndRows
