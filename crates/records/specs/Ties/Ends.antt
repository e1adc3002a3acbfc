-- Records one of which gets another end.
use Rattle.std.specs.Prelude.{ℕ, zero, suc, List, [], ◌∷◌}
use Rattle.records.specs.Believed.AddressRecords.{AddressRecord, record_by}

-- a record with another end
abbrev pub with_end : AddressRecord → ℕ → AddressRecord
with_end r e = record_by r.kind r.depth r.parent r.start e r.name_start r.name_end

-- records, one of which, by its number, gets another end
abbrev pub set_end : ℕ → ℕ → List AddressRecord → List AddressRecord
set_end i e [] = []
set_end zero e (r ∷ rs) = with_end r e ∷ rs
set_end (suc i) e (r ∷ rs) = r ∷ set_end i e rs
