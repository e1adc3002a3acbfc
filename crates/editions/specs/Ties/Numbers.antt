-- The edition that a number names.
use Rattle.std.specs.Prelude.{ℕ, ◌≡◌, ◌≢◌, Result, Ok, Err}
use Rattle.editions.specs.declared.Edition.{Edition}
use Rattle.editions.specs.declared.Edition.TheVariants.{Rfc733, Rfc822}
use Rattle.editions.specs.declared.UnknownEdition.{UnknownEdition}

abbrev pub edition_number : Edition → ℕ
edition_number Rfc733 = 733
edition_number Rfc822 = 822

-- the edition with this number, or none has it
abbrev pub EditionIs : ℕ → Result Edition UnknownEdition → Type 0
EditionIs number (Ok edition) = number ≡ edition_number edition
EditionIs number (Err e) = (number ≢ 733) × (number ≢ 822)
