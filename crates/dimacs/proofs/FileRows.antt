-- Each file read by computing.
-- The last lemma is the contract of `file_rows_hold`.
use Rattle.std.proofs.Common.{refl}
use Rattle.formula.specs.Logic.{any, none_of}
use Rattle.dimacs.specs.Text.{words_from, number_of, word_number, same_bytes, with_numbers, with_words, header_read, literal_done, then_out, skipped, digit_read, byte_read, next_byte, bytes_read, row_vars, vars_of, with_header, ended, then_ended, at_end, file_read}
use Rattle.dimacs.specs.FileRows.{BlankRows, CommentRows, HeaderRows, NumberRows, EndRows, FileRows}

blank_rows_hold : BlankRows
unfolding any none_of words_from number_of word_number same_bytes with_numbers with_words header_read literal_done then_out skipped digit_read byte_read next_byte bytes_read row_vars vars_of with_header ended then_ended at_end file_read
blank_rows_hold = record {
  empty_file = (_, refl, refl);
  blank_lines = (_, refl, refl);
  one_clause = (_, refl, refl);
  no_newline_at_end = (_, refl, refl);
  many_blanks = (_, refl, refl);
  two_on_a_line = (_, refl, refl);
  over_several_lines = (_, refl, refl);
  carriage_returns = (_, refl, refl);
  both_line_ends = (_, refl, refl);
  tab_in_clause = refl;
  tab_on_line_three = refl;
  vertical_tab_in_clause = refl;
}

comment_rows_hold : CommentRows
unfolding any none_of words_from number_of word_number same_bytes with_numbers with_words header_read literal_done then_out skipped digit_read byte_read next_byte bytes_read row_vars vars_of with_header ended then_ended at_end file_read
comment_rows_hold = record {
  comments_everywhere = (_, refl, refl);
  comment_without_text = (_, refl, refl);
  comment_in_clause = (_, refl, refl);
  comment_ended_by_return = (_, refl, refl);
  only_a_comment = (_, refl, refl);
  comment_behind_blank = refl;
  comment_behind_clause = refl;
}

header_rows_hold : HeaderRows
unfolding any none_of words_from number_of word_number same_bytes with_numbers with_words header_read literal_done then_out skipped digit_read byte_read next_byte bytes_read row_vars vars_of with_header ended then_ended at_end file_read
header_rows_hold = record {
  header_first = (_, refl, refl);
  header_between = (_, refl, refl);
  header_in_clause = (_, refl, refl);
  header_last = (_, refl, refl);
  header_at_file_end = (_, refl, refl);
  no_clauses = (_, refl, refl);
  fewer_variables = (_, refl, refl);
  header_blanks = (_, refl, refl);
  header_plus = (_, refl, refl);
  header_zeros = (_, refl, refl);
  header_ended_by_return = (_, refl, refl);
  most_variables = (_, refl, refl);
  two_headers = refl;
  header_behind_blank = refl;
  letter_alone = refl;
  letter_alone_at_end = refl;
  no_numbers = refl;
  one_number = refl;
  three_numbers = refl;
  word_twice = refl;
  word_misspelt = refl;
  capital_letters = refl;
  no_blank_behind_letter = refl;
  tab_behind_letter = refl;
  plus_alone = refl;
  header_minus = refl;
  bad_header_by_return = refl;
  too_many_variables = refl;
  too_many_and_no_more = refl;
  too_many_and_a_word = refl;
  variables_past_64_bits = refl;
  clauses_past_64_bits = refl;
  clauses_of_64_bits = refl;
}

number_rows_hold : NumberRows
unfolding any none_of words_from number_of word_number same_bytes with_numbers with_words header_read literal_done then_out skipped digit_read byte_read next_byte bytes_read row_vars vars_of with_header ended then_ended at_end file_read
number_rows_hold = record {
  largest_literals = (_, refl, refl);
  literal_too_large = refl;
  negated_too_large = refl;
  leading_zeros = (_, refl, refl);
  empty_clause = (_, refl, refl);
  two_zeros = (_, refl, refl);
  zero_with_minus = (_, refl, refl);
  minus_before_blank = refl;
  minus_before_newline = refl;
  minus_at_file_end = (_, refl, refl);
  two_minuses = refl;
  minus_in_number = refl;
  minus_before_comment = refl;
  plus_in_clause = refl;
  letter_on_line_three = refl;
  letter_behind_returns = refl;
  byte_behind_digit = refl;
}

end_rows_hold : EndRows
unfolding any none_of words_from number_of word_number same_bytes with_numbers with_words header_read literal_done then_out skipped digit_read byte_read next_byte bytes_read row_vars vars_of with_header ended then_ended at_end file_read
end_rows_hold = record {
  no_last_zero = refl;
  no_last_zero_on_line_four = refl;
  no_last_zero_with_minus = refl;
  more_variables = refl;
  fewer_clauses = refl;
  more_clauses = refl;
  both_wrong = refl;
  not_ended_first = refl;
}

pub file_rows_hold : FileRows
file_rows_hold = record {
  blanks = blank_rows_hold;
  comments = comment_rows_hold;
  headers = header_rows_hold;
  numbers = number_rows_hold;
  ends = end_rows_hold;
}
