-- Document 01, "Answer numbers": the number, position and count of each answer of an entry point, by which its promise is stated.
use Rattle.std.specs.Prelude.{ℕ, ◌≡◌, List}
use Rattle.octets.specs.Believed.Numbers.{accepted, too_little_room}
use Rattle.octets.specs.declared.answers.Answer.{Answer}
use Rattle.octets.specs.declared.answers.Fault.{Fault}
use Rattle.octets.specs.declared.answers.Answer.TheVariants.{Accepted, Refused, NoRoom}

-- what is wrong, and where
abbrev pub fault : ℕ → ℕ → Fault
fault number position = record { number = number; position = position }

-- 0 accepted, 11 too little room, else the number of the refusal
abbrev pub number_of : Answer → ℕ
number_of (Accepted written) = accepted
number_of (Refused number position) = number
number_of (NoRoom needed) = too_little_room

-- the place of a refusal, else 0
abbrev pub position_of : Answer → ℕ
position_of (Accepted written) = 0
position_of (Refused number position) = position
position_of (NoRoom needed) = 0

-- records or bytes written; needed, for 11; 0 for any other refusal
abbrev pub count_of : Answer → ℕ
count_of (Accepted written) = written
count_of (Refused number position) = 0
count_of (NoRoom needed) = needed

-- what is told: a number, a position and a count
pub record Told : Type 0 where
  pub number : ℕ
  pub position : ℕ
  pub count : ℕ

abbrev pub telling : ℕ → ℕ → ℕ → Told
telling number position count = record { number = number; position = position; count = count }

-- what an answer tells
abbrev pub told : Answer → Told
told r = telling (number_of r) (position_of r) (count_of r)

-- an answer `r`, and the lent bytes afterwards, are as a definition gives them: the same is told, every byte is the same, and the enum's case is the same
pub record Answered (answer : Answer) (bytes : List ℕ) (r : Answer) (after : List ℕ) : Type 0 where
  pub told_is : told r ≡ told answer
  pub bytes_are : after ≡ bytes
  pub answer_is : r ≡ answer
