-- Document 01's checked examples, by evaluation of the definitions. Assumes nothing.
use mathlib.Core.Path.{refl}
use Rattle.octets.specs.Believed.Classes.{class_of, class_table}
use Rattle.octets.specs.Believed.Letters.{lower, same}
use Rattle.scanner.specs.Believed.Kinds.{kind_of}
use Rattle.scanner.specs.Believed.Characters.{characters_from}
use Rattle.scanner.specs.Believed.Scanning.{scan_from, symbols_of, parted}
use Rattle.scanner.specs.Believed.Answers.{unless_fault}
use Rattle.dates.specs.Believed.Names.{called, place}
use Rattle.dates.specs.Believed.Parts.{is_mark, is_run, key_of, runs, parts}
use Rattle.dates.specs.Believed.Grammar.{decimal, offset_of}
use Rattle.dates.specs.Believed.Calendar.{leap, month_length, days_before_month, days_of_years, day_number}
use Rattle.dates.specs.Executable.Form.{first_key, first_bytes, after, done, digit_run_of, name_of, second_after, minute_after, time_of, zone_named, zone_signed, zone_of, day_name_of, day_of, year_of, past_dash, reading_of}
use Rattle.dates.specs.Believed.Answers.{day_exists, time_exists, name_true, moment_of}
use Rattle.dates.specs.Believed.Outcome.{date_answer}
use Rattle.examples.specs.Believed.Examples.{ExamplesHold}

pub examples_hold : ExamplesHold
unfolding scan_from parted symbols_of characters_from kind_of class_of class_table lower same unless_fault called place is_mark is_run key_of runs parts decimal offset_of leap month_length days_before_month days_of_years day_number first_key first_bytes after done digit_run_of name_of second_after minute_after time_of zone_named zone_signed zone_of day_name_of day_of year_of past_dash reading_of day_exists time_exists name_true moment_of date_answer
examples_hold = (refl, (refl, (refl, (refl, (refl, (refl, (refl, (refl, (refl, (refl, (refl, (refl, (refl, tt)))))))))))))
