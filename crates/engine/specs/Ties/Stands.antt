-- What the reader's numbers and its levels stand for: a state of the machine that the laws of the grammar are about.
use Rattle.std.specs.Prelude.{ℕ, suc, ◌+◌, ◌*◌, ◌≤◌, ◌≡◌, List, length, get_or}
use Rattle.std.proofs.Math.Option.{Option, none, some}
use Rattle.std.proofs.lemmas.List.Edits.{sets}
use Rattle.octets.specs.Believed.Numbers.{message_limit, level_limit}
use Rattle.octets.specs.Believed.Text.{part}
use Rattle.records.specs.Believed.AddressRecords.{address_record_size, table_bytes}
use Rattle.grammar.specs.Believed.Rfc733.{kind_number, typed_kind, angle_list, group}
use Rattle.grammar.specs.Executable.Trees733.{Lexeme, Phrase, one, more, atom_word, quoted_word, idle, full, AddressList, Address}
use Rattle.grammar.specs.Executable.Machine733.{Here, in_list, in_typed, Level, top, in_angle, in_group, State, list, phrase, first_at, next_at, node, want, levels_here, levels_at, fresh, Began}
use Rattle.grammar.proofs.Rfc733.TreeRecords.{slot_count, list_count, slot_records, list_records, address_records, phrase_start, phrase_end, nodes_end, name_start, name_end}
use Rattle.engine.specs.declared.actions.Mode.{Mode}
use Rattle.engine.specs.declared.actions.Mode.TheVariants.{AtPlace, AtStart, AtFirstAtom, Wanting, AtAtom, AtQuoted, AtWords, AtNode, AfterAt, AfterAddress}
use Rattle.engine.specs.declared.OpenLevel.{OpenLevel}
use Rattle.engine.specs.declared.Stack.{Stack}
use Rattle.engine.specs.declared.Engine.{Engine}

-- ---- the mode

-- at a place, which may be the start of a nameless group
abbrev pub place_mode : Option Began → Mode
place_mode none = AtPlace
place_mode (some b) = AtStart

-- after an atom there
abbrev pub atom_mode : Option Began → Mode
atom_mode none = AtAtom
atom_mode (some b) = AtFirstAtom

-- the mode of a state of the machine
abbrev pub mode_of : State → Mode
mode_of (list k (idle r)) = place_mode (fresh (in_list k r))
mode_of (list k (full r a)) = AfterAddress
mode_of (phrase h (one (atom_word t))) = atom_mode (fresh h)
mode_of (phrase h (one (quoted_word t))) = AtQuoted
mode_of (phrase h (more p w)) = AtWords
mode_of (first_at h p t) = AfterAt
mode_of (next_at h p m t) = AfterAt
mode_of (node h p m) = AtNode
mode_of (want h t a u) = Wanting

-- ---- the numbers of records

abbrev mutual
  -- the number of the record of an address that stands here
  pub number_here : Here → ℕ
  number_here (in_list k r) = parent_at k + slot_count r
  number_here (in_typed h t a u) = suc (number_here h)

  -- the parent of the addresses of a list (its number plus 1, or 0), which is also the number of the first of them
  pub parent_at : Level → ℕ
  parent_at top = 0
  parent_at (in_angle h o t) = suc (number_here h)
  parent_at (in_group h o t) = suc (number_here h)

-- the parent of an address that stands here
abbrev pub parent_here : Here → ℕ
parent_here (in_list k r) = parent_at k
parent_here (in_typed h t a u) = suc (number_here h)

-- the next free number
abbrev pub free_of : State → ℕ
free_of (list k l) = parent_at k + list_count l
free_of (phrase h p) = number_here h
free_of (first_at h p t) = number_here h
free_of (next_at h p m t) = number_here h
free_of (node h p m) = number_here h
free_of (want h t a u) = suc (number_here h)

-- an address is begun whose record has no number yet
abbrev pub begun : State → ℕ
begun (list k l) = 0
begun (phrase h p) = 1
begun (first_at h p t) = 1
begun (next_at h p m t) = 1
begun (node h p m) = 1
begun (want h t a u) = 0

-- the levels that are open
abbrev pub depth_of : State → ℕ
depth_of (list k l) = levels_at k
depth_of (phrase h p) = levels_here h
depth_of (first_at h p t) = levels_here h
depth_of (next_at h p m t) = levels_here h
depth_of (node h p m) = levels_here h
depth_of (want h t a u) = suc (levels_here h)

-- ---- the levels

-- an open level, by its numbers
abbrev pub open_by : ℕ → ℕ → ℕ → ℕ → ℕ → OpenLevel
open_by number start kind first last = record { number = number; kind = kind; start = start; name_start = first; name_end = last }

-- what stands for a level where there is none
abbrev pub no_level : OpenLevel
no_level = open_by 0 0 0 0 0

-- a level of these
abbrev pub level_at : List OpenLevel → ℕ → OpenLevel
level_at levels level = get_or levels level no_level

-- .. has these numbers: of its record, its start, its kind, and the start and end of its name
pub record Entry (levels : List OpenLevel) (level number start kind first last : ℕ) : Type 0 where
  pub is : level_at levels level ≡ open_by number start kind first last

abbrev mutual
  -- these are the levels around an address
  pub HoldsHere : List OpenLevel → Here → Type 0
  HoldsHere levels (in_list k r) = HoldsLevel levels k
  HoldsHere levels (in_typed h t a u) = Entry levels (levels_here h) (number_here h) t.start (kind_number (typed_kind a.meaning)) a.start a.end × HoldsHere levels h

  -- .. and around a list
  pub HoldsLevel : List OpenLevel → Level → Type 0
  HoldsLevel levels top = Unit {0}
  HoldsLevel levels (in_angle h o t) = Entry levels (levels_here h) (number_here h) (name_start o t) (kind_number angle_list) (name_start o t) (name_end o t) × HoldsHere levels h
  HoldsLevel levels (in_group h o t) = Entry levels (levels_here h) (number_here h) (name_start o t) (kind_number group) (name_start o t) (name_end o t) × HoldsHere levels h

-- .. and around what is read
abbrev pub HoldsState : List OpenLevel → State → Type 0
HoldsState levels (list k l) = HoldsLevel levels k
HoldsState levels (phrase h p) = HoldsHere levels h
HoldsState levels (first_at h p t) = HoldsHere levels h
HoldsState levels (next_at h p m t) = HoldsHere levels h
HoldsState levels (node h p m) = HoldsHere levels h
HoldsState levels (want h t a u) = HoldsHere levels (in_typed h t a u)

-- ---- the table: the records of all addresses that have ended

abbrev mutual
  -- before an address
  pub stored_here : List ℕ → Here → List ℕ
  stored_here lent (in_list k r) = sets (stored_level lent k) (parent_at k * address_record_size) (table_bytes (slot_records r (levels_at k) (parent_at k) (parent_at k)))
  stored_here lent (in_typed h t a u) = stored_here lent h

  -- before a list
  pub stored_level : List ℕ → Level → List ℕ
  stored_level lent top = lent
  stored_level lent (in_angle h o t) = stored_here lent h
  stored_level lent (in_group h o t) = stored_here lent h

-- .. and those of the list so far
abbrev pub stored_list : List ℕ → Level → AddressList → List ℕ
stored_list lent k l = sets (stored_level lent k) (parent_at k * address_record_size) (table_bytes (list_records l (levels_at k) (parent_at k) (parent_at k)))

-- before what is read
abbrev pub stored_state : List ℕ → State → List ℕ
stored_state lent (list k l) = stored_list lent k l
stored_state lent (phrase h p) = stored_here lent h
stored_state lent (first_at h p t) = stored_here lent h
stored_state lent (next_at h p m t) = stored_here lent h
stored_state lent (node h p m) = stored_here lent h
stored_state lent (want h t a u) = stored_here lent h

-- before an address, and then this address with all that lies in it
abbrev pub stored_address : List ℕ → Here → Address → List ℕ
stored_address lent h a = sets (stored_here lent h) (number_here h * address_record_size) (table_bytes (address_records a (levels_here h) (parent_here h) (number_here h)))

-- ---- the address that is read

-- a typed atom's meaning stands in the text
pub record AtomIn (text : List ℕ) (t : Lexeme) : Type 0 where
  pub ordered : t.start ≤ t.end
  pub within : t.end ≤ length text
  pub meaning : t.meaning ≡ part text t.start t.end

-- .. of a phrase that is one atom
abbrev pub FirstAtom : List ℕ → Phrase → Type 0
FirstAtom text (one (atom_word t)) = AtomIn text t
FirstAtom text (one (quoted_word t)) = Unit {0}
FirstAtom text (more p w) = Unit {0}

-- the start of the address and the end of its name are those of its phrase
pub record NameIs (p : Phrase) (e : Engine) : Type 0 where
  pub start_is : e.name.start ≡ phrase_start p
  pub name_is : e.name.end ≡ phrase_end p

-- what is known of the address that is read
abbrev pub Current : List ℕ → State → Engine → Type 0
Current text (list k l) e = Unit {0}
Current text (phrase h p) e = NameIs p e × (e.at ≡ phrase_end p) × FirstAtom text p
Current text (first_at h p t) e = NameIs p e
Current text (next_at h p m t) e = NameIs p e
Current text (node h p m) e = NameIs p e × (e.at ≡ nodes_end m)
Current text (want h t a u) e = Unit {0}

-- ---- all of it

-- what holds in every state: positions in order and in the text, levels and text within their limits
pub record Ordered (text : List ℕ) (e : Engine) (stack : Stack) : Type 0 where
  pub start_low : e.name.start ≤ e.at
  pub name_low : e.name.end ≤ e.at
  pub inside : e.at ≤ length text
  pub deep : stack.depth ≤ level_limit
  pub short : length text ≤ message_limit
  pub tall : length stack.levels ≡ level_limit

-- the reader's numbers, levels and table stand for a state
pub record Stands (text lent : List ℕ) (s : State) (e : Engine) (stack : Stack) (table : List ℕ) : Type 0 where
  pub ordered : Ordered text e stack
  pub mode_is : e.mode ≡ mode_of s
  pub depth_is : stack.depth ≡ depth_of s
  pub free_is : e.free ≡ free_of s
  pub room : e.free + begun s ≤ e.at
  pub holds : HoldsState stack.levels s
  pub current : Current text s e
  pub stored : table ≡ stored_state lent s
