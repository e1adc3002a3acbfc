-- Document 02, CR 10: the store, and the stored list that an Include leads to.
use Rattle.std.specs.Prelude.{ℕ, zero, suc, ◌+◌, ◌*◌, Bool, true, List, [], ◌∷◌, Option, None, Some, eqb}
use Rattle.octets.specs.Believed.Choice.{pick, both}
use Rattle.octets.specs.Believed.Letters.{same_bytes}
use Rattle.octets.specs.Believed.Numbers.{store_record_size, store_name_size}
use Rattle.octets.specs.Believed.Stored.{room_for}
use Rattle.octets.specs.Believed.Text.{part}
use Rattle.grammar.specs.Believed.Rfc733.{kind_number, mailbox, angle_list}
use Rattle.plain.specs.Believed.Meaning.{Addresses, no_address, and_address, Address, address}
use Rattle.plain.specs.Believed.PlainText.{address_text}

-- ---- records

-- a byte before bytes that have no zero at their end; a zero before none is left out
abbrev pub before_trimmed : ℕ → List ℕ → List ℕ
before_trimmed b [] = pick (eqb b 0) [] (b ∷ [])
before_trimmed b (c ∷ bytes) = b ∷ c ∷ bytes

-- bytes without the zeros at their end
abbrev pub without_zeros : List ℕ → List ℕ
without_zeros [] = []
without_zeros (b ∷ bytes) = before_trimmed b (without_zeros bytes)

-- the name of a record, without the zeros at its end
abbrev pub name_in : List ℕ → ℕ → List ℕ
name_in store i = without_zeros (part store (i * store_record_size) (i * store_record_size + store_name_size))

-- the list of a record, whole
abbrev pub list_in : List ℕ → ℕ → List ℕ
list_in store i = part store (i * store_record_size + store_name_size) (i * store_record_size + store_record_size)

-- the first of so many records, from number i on, that has this name
abbrev pub first_named : ℕ → List ℕ → List ℕ → ℕ → Option ℕ
first_named zero store name i = None
first_named (suc many) store name i = pick (same_bytes (name_in store i) name) (Some i) (first_named many store name (suc i))

-- the lowest record with this name; a tail short of a record is ignored
abbrev pub lowest : List ℕ → List ℕ → Option ℕ
lowest store name = first_named (room_for store_record_size store) store name 0

-- ---- what an Include leads to

-- an address is a mailbox
abbrev pub is_mailbox : Address → Bool
is_mailbox (address kind name nodes members) = eqb kind (kind_number mailbox)

-- addresses are mailboxes, each of them
abbrev pub only_mailboxes : Addresses → Bool
only_mailboxes no_address = true
only_mailboxes (and_address before last) = both (only_mailboxes before) (is_mailbox last)

-- the first if there is one, else the second
abbrev pub or_else : Option ℕ → Option ℕ → Option ℕ
or_else None other = other
or_else (Some i) other = Some i

-- of addresses in order, the first whose plain text is a record's name gives the record
abbrev pub first_stored : List ℕ → Addresses → Option ℕ
first_stored store no_address = None
first_stored store (and_address before last) = or_else (first_stored store before) (lowest store (address_text last []))

-- what an Include names: the addresses of an angle list, or the address itself
abbrev pub named : Address → Addresses
named (address kind name nodes members) = pick (eqb kind (kind_number angle_list)) members (and_address no_address (address kind name nodes members))

-- the record that an Include with this in it leads to, if it holds a mailbox or an angle list of mailboxes
abbrev pub leads_to : List ℕ → Addresses → Option ℕ
leads_to store no_address = None
leads_to store (and_address before held) = pick (only_mailboxes (named held)) (first_stored store (named held)) None
