-- Document 02, CR 3: the numbers of each answer for a touched byte, and what is answered of a list.
use Rattle.std.specs.Prelude.{ℕ, ◌≡◌, List, leb, ltb, length, Result, Ok, Err}
use Rattle.std.proofs.lemmas.List.Edits.{sets}
use Rattle.octets.specs.Believed.Answers.{fault}
use Rattle.octets.specs.Believed.Choice.{pick, both}
use Rattle.octets.specs.Believed.Numbers.{table_records, accepted, body_out_of_order, too_little_room}
use Rattle.scanner.specs.Believed.Categories.{category_at}
use Rattle.scanner.specs.declared.Category.{Category}
use Rattle.scanner.specs.declared.Category.TheVariants as category
use Rattle.grammar.specs.Believed.Records.{count, records}
use Rattle.grammar.specs.Believed.Rfc733.{Derivation}
use Rattle.touch.specs.Believed.Around.{around}
use Rattle.touch.specs.declared.Byte.{Byte}
use Rattle.touch.specs.declared.Untouched.{Untouched}
use Rattle.touch.specs.declared.Untouched.TheVariants.{Expected, Refused, NoRoom}

-- what is answered: of a byte of an accepted body what it is, and the number of records around it; or why nothing
abbrev pub Touched : Type 0
Touched = Result Byte Untouched

-- ---- the numbers of an answer

-- 0 for a byte of an accepted body, 11 too little room, else the number of the refusal
abbrev pub number_of : Touched → ℕ
number_of (Ok byte) = accepted
number_of (Err (Expected f names)) = f.number
number_of (Err (Refused f)) = f.number
number_of (Err (NoRoom needed)) = too_little_room

-- the place of a refusal, else 0
abbrev pub position_of : Touched → ℕ
position_of (Ok byte) = 0
position_of (Err (Expected f names)) = f.position
position_of (Err (Refused f)) = f.position
position_of (Err (NoRoom needed)) = 0

-- the records around the byte; needed, for 11; 0 for any other refusal
abbrev pub count_of : Touched → ℕ
count_of (Ok byte) = byte.around
count_of (Err (Expected f names)) = 0
count_of (Err (Refused f)) = 0
count_of (Err (NoRoom needed)) = needed

-- what a byte is: 1 white space, 2 comment, 3 word, 4 "at", 5 a bracket or mark, 0 nothing of these
abbrev pub category_number : Category → ℕ
category_number category.White = 1
category_number category.Comment = 2
category_number category.Word = 3
category_number category.At = 4
category_number category.Mark = 5
category_number category.Nothing = 0

-- .. of an answer; 0 for a refusal
abbrev pub category_of : Touched → ℕ
category_of (Ok byte) = category_number byte.category
category_of (Err why) = 0

-- what could have stood at the place of a refusal, as a sum; 0 where nothing is named
abbrev pub names_of : Touched → ℕ
names_of (Ok byte) = 0
names_of (Err (Expected f names)) = names
names_of (Err (Refused f)) = 0
names_of (Err (NoRoom needed)) = 0

-- what an answer tells
pub record Told : Type 0 where
  pub number : ℕ
  pub position : ℕ
  pub count : ℕ
  pub category : ℕ
  pub names : ℕ

abbrev pub told : Touched → Told
told r = record { number = number_of r; position = position_of r; count = count_of r; category = category_of r; names = names_of r }

-- ---- the answer, and the lent path afterwards

pub record Outcome : Type 0 where
  pub answer : Touched
  pub path : List ℕ

-- an answer and the lent path afterwards are those of an outcome: the same is told, every number is the same, and the enum's case is the same
pub record AnsweredBy (o : Outcome) (r : Touched) (after : List ℕ) : Type 0 where
  pub told_is : told r ≡ told o.answer
  pub path_is : after ≡ o.path
  pub answer_is : r ≡ o.answer

-- any answer but that of a byte leaves the path as it was
abbrev pub unchanged : List ℕ → Touched → Outcome
unchanged path r = record { answer = r; path = path }

-- a refusal
abbrev pub refusal : List ℕ → ℕ → ℕ → Outcome
refusal path number position = unchanged path (Err (Refused (fault number position)))

-- a byte: what it is, and the number of records around it
abbrev pub byte : Category → ℕ → Touched
byte category around = Ok (record { category = category; around = around })

module _ (message : List ℕ) (start end place : ℕ) (path : List ℕ) where
  -- a byte of a list: what it is, and the numbers of the records around it at the front of the path, as far as it reaches
  abbrev pub byte_of : Derivation → Outcome
  byte_of k = record { answer = byte (category_at message start end place) (length (around place (records k))); path = sets path 0 (around place (records k)) }

  -- a list: 11 where the tool's own table is too small, 13 where the place lies outside of the body, else the byte
  abbrev pub of_list : Derivation → Outcome
  of_list k =
      pick (ltb table_records (count k)) (unchanged path (Err (NoRoom (count k))))
      (pick (both (leb start place) (ltb place end)) (byte_of k) (refusal path body_out_of_order 0))
