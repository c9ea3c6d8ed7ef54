-- How the bytes of a formula or a proof are read, one at a time. None is a byte that can't stand there.
use Rattle.std.specs.Prelude.{ℕ, ◌+◌, ◌-◌, ◌*◌, Bool, true, false, ◌&&◌, Some, None, Option, ◌==◌, nat_le}
use Rattle.formula.specs.Logic.{pick, or}
use Rattle.checker.specs.declared.lexer.Header.{Header}
use Rattle.checker.specs.declared.lexer.Header.TheVariants.{AfterP, BeforeFormat, AfterC, AfterN, AfterFormat, BeforeVariables, Variables, BeforeClauses, ClauseCount, Rest}
use Rattle.checker.specs.declared.lexer.Lexer.{Lexer}
use Rattle.checker.specs.declared.lexer.Lexer.TheVariants.{LineStart, Between, Signed, Number, Comment, Heading}
use Rattle.checker.specs.declared.lexer.Token.{Token}
use Rattle.checker.specs.declared.lexer.Token.TheVariants.{Quiet, Literal, Zero, LetterD, LetterP}

abbrev pub is_digit : ℕ → Bool
is_digit b = nat_le 48 b && nat_le b 57

-- space, tab and carriage return; a line's end is another thing
abbrev pub is_blank : ℕ → Bool
is_blank b = or (b == 32) (or (b == 9) (b == 13))

-- THE HEADER: p cnf VARIABLES CLAUSES
abbrev pub heads : Bool → Header → Option (Lexer × Token)
heads b h = pick b (Some (Heading h, Quiet)) None

abbrev pub header_end : ℕ → Option (Lexer × Token)
header_end b = pick (b == 10) (Some (LineStart, Quiet)) (heads (is_blank b) Rest)

abbrev pub header_next : Header → ℕ → Option (Lexer × Token)
header_next AfterP b = heads (is_blank b) BeforeFormat
header_next BeforeFormat b = pick (is_blank b) (heads true BeforeFormat) (heads (b == 99) AfterC)
header_next AfterC b = heads (b == 110) AfterN
header_next AfterN b = heads (b == 102) AfterFormat
header_next AfterFormat b = heads (is_blank b) BeforeVariables
header_next BeforeVariables b = pick (is_blank b) (heads true BeforeVariables) (heads (is_digit b) Variables)
header_next Variables b = pick (is_digit b) (heads true Variables) (heads (is_blank b) BeforeClauses)
header_next BeforeClauses b = pick (is_blank b) (heads true BeforeClauses) (heads (is_digit b) ClauseCount)
header_next ClauseCount b = pick (is_digit b) (heads true ClauseCount) (header_end b)
header_next Rest b = header_end b

-- NUMBERS, up to 2^31
abbrev pub longer : Bool → ℕ → Option (Lexer × Token)
longer n v = pick (nat_le v 2147483648) (Some (Number n v, Quiet)) None

-- 0 ends a clause, any other is a literal: twice its variable, from 0, and one more if it is negated
abbrev pub ended : Bool → ℕ → Lexer → Option (Lexer × Token)
ended n v x = pick (v == 0) (pick n None (Some (x, Zero))) (Some (x, Literal (2 * (v - 1) + pick n 1 0)))

abbrev pub in_number : Bool → ℕ → ℕ → Option (Lexer × Token)
in_number n v b = pick (is_digit b) (longer n (v * 10 + (b - 48))) (pick (is_blank b) (ended n v Between) (pick (b == 10) (ended n v LineStart) None))

abbrev pub between : ℕ → Option (Lexer × Token)
between b =
    pick (is_digit b) (Some (Number false (b - 48), Quiet))
    (pick (is_blank b) (Some (Between, Quiet)) (pick (b == 10) (Some (LineStart, Quiet)) (pick (b == 45) (Some (Signed, Quiet)) (pick (b == 100) (Some (Between, LetterD)) None))))

abbrev pub line_start : ℕ → Option (Lexer × Token)
line_start b = pick (b == 99) (Some (Comment, Quiet)) (pick (b == 112) (Some (Heading AfterP, LetterP)) (between b))

abbrev pub lexed : Lexer → ℕ → Option (Lexer × Token)
lexed LineStart b = line_start b
lexed Between b = between b
lexed Signed b = pick (is_digit b) (Some (Number true (b - 48), Quiet)) None
lexed (Number n v) b = in_number n v b
lexed Comment b = Some (pick (b == 10) LineStart Comment, Quiet)
lexed (Heading h) b = header_next h b
