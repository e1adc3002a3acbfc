-- What the functions below the entry point answer.
use Rattle.std.specs.Prelude.{◌≡◌, Bool, true, false, Result, Ok, Err, List, [], ◌∷◌, ℕ, ◌+◌, ◌*◌, ◌-◌, ◌≤◌, ◌<◌, length}
use Rattle.std.proofs.Math.Option.{Option, none, some}
use Rattle.std.specs.Prelude as std
use Rattle.std.proofs.lemmas.List.Edits.{sets}
use Rattle.octets.specs.Believed.Numbers.{message_limit, no_list_goes_on, ends_too_soon, too_many_levels, level_limit}
use Rattle.octets.specs.declared.answers.Answer.{Answer}
use Rattle.octets.specs.declared.answers.Answer.TheVariants.{Accepted, Refused as fault_refused}
use Rattle.records.specs.Believed.AddressRecords.{table_bytes, address_record_size}
use Rattle.scanner.specs.Believed.Scanning.{scan_by, symbols_of}
use Rattle.scanner.specs.Believed.Answers.{found_at, fault_of}
use Rattle.scanner.specs.declared.Next.{Next}
use Rattle.scanner.specs.declared.Next.TheVariants.{Found, Ended, Fault}
use Rattle.scanner.specs.declared.cursor.Ahead.{Ahead}
use Rattle.scanner.specs.declared.cursor.Ahead.TheVariants.{Symbol, End, Faulty}
use Rattle.scanner.specs.Ties.Meanings.{meaning_at}
use Rattle.scanner.specs.Ties.Cursors.{apart_in, next_in}
use Rattle.grammar.specs.Believed.Language.{Refusal as Why, refused, number, start_of}
use Rattle.grammar.specs.Believed.Rfc733.{same_class}
use Rattle.grammar.specs.Executable.Trees733.{Class, Atom, Quoted, At, LessThan, GreaterThan, Semicolon, Colon, Lexeme, Sym, of, one_of, atom_word, quoted_word, Phrase, one, more, Nodes, empty, AddressList, idle, Address, angle, group}
use Rattle.grammar.proofs.Rfc733.Trees.{phrase_then, name_then, nodes_then, atom_colon}
use Rattle.grammar.specs.Executable.Machine733.{Here, Level, in_angle, in_group, list, first_at, levels_here, levels_at, nameless, fresh, run, judge}
use Rattle.grammar.proofs.Rfc733.Complete.{begin, done_address, done_list, Clear}
use Rattle.grammar.proofs.Rfc733.Readers.{AddressEnds, ListEnds, ends_address}
use Rattle.grammar.proofs.Rfc733.TreeRecords.{phrase_start, phrase_end, nodes_end, name_start, name_end, address_end, address_count, address_records, list_count, list_records}
use Rattle.addresses.specs.declared.Refusal.{Refusal}
use Rattle.addresses.specs.declared.Refusal.TheVariants.{Unfit, Unfinished, TooDeep}
use Rattle.addresses.specs.declared.Walk.{Walk}
use Rattle.addresses.specs.declared.Level.{Level as Left}
use Rattle.addresses.specs.declared.Frame.{Frame}
use Rattle.records.specs.declared.Span.{Span}
use Rattle.addresses.specs.declared.Enclosure.{Enclosure}
use Rattle.addresses.specs.declared.Enclosure.TheVariants.{Angle, Group}

-- ---- what is read

-- what reading gives: what comes next, the end of the last symbol read and the next free record number; or a refusal
pub data Reading : Type 0 where
  Read : Next → ℕ → ℕ → Reading
  Refused : ℕ → ℕ → Reading

-- the words of a phrase: what comes after them, the end of the last, and whether they are one quoted-string
pub record Words : Type 0 where
  pub ahead : Next
  pub end : ℕ
  pub lone : Bool

-- the nodes of a mailbox: what comes after them and the end of the last; or a refusal
pub data NodesRead : Type 0 where
  Behind : Next → ℕ → NodesRead
  Stopped : ℕ → ℕ → NodesRead

-- what comes next in a walk
abbrev pub coming : Walk → Next
coming walk = next_in walk.cursor

-- a refusal by its number, and its place in a text of some size: where the walk stands, or the end of the text
abbrev pub number_told : Refusal → ℕ
number_told Unfit = no_list_goes_on
number_told Unfinished = ends_too_soon
number_told TooDeep = too_many_levels

abbrev pub place_told : ℕ → Refusal → Walk → ℕ
place_told size Unfit walk = walk.cursor.start
place_told size Unfinished walk = size
place_told size TooDeep walk = walk.cursor.start

abbrev pub told : ℕ → Refusal → Walk → Reading
told size why walk = Refused (number_told why) (place_told size why walk)

-- what a walk through a text of some size tells after reading, or a refusal
abbrev pub reading : ℕ → Result Unit Refusal → Walk → Reading
reading size (Ok u) walk = Read (coming walk) walk.last walk.free
reading size (Err why) walk = told size why walk

abbrev pub nodes_read : ℕ → Result Unit Refusal → Walk → NodesRead
nodes_read size (Ok u) walk = Behind (coming walk) walk.last
nodes_read size (Err why) walk = Stopped (number_told why) (place_told size why walk)

-- the frame of an address whose record is the next free one
abbrev pub frame_at : Left → Walk → Frame
frame_at level walk = record { level = level; number = walk.free }

-- ---- classes

abbrev pub is_word : Class → Bool
is_word c = one_of (Atom ∷ Quoted ∷ []) c

abbrev pub is_quoted : Class → Bool
is_quoted c = same_class Quoted c

-- a symbol of a class stands ahead
abbrev pub is_ahead : Class → Ahead → Bool
is_ahead wanted (Symbol class) = same_class wanted class
is_ahead wanted End = false
is_ahead wanted (Faulty f) = false

abbrev pub word_ahead : Ahead → Bool
word_ahead (Symbol class) = is_word class
word_ahead End = false
word_ahead (Faulty f) = false

abbrev pub ends_ahead : Ahead → Bool
ends_ahead (Symbol class) = ends_address class
ends_ahead End = true
ends_ahead (Faulty f) = true

-- what comes next may stand after an address
abbrev pub ends_address_next : Next → Bool
ends_address_next (Found symbol) = ends_address symbol.class
ends_address_next Ended = true
ends_address_next (Fault number p) = true

-- what stands ahead is refused
abbrev pub refusal_ahead : Ahead → Refusal
refusal_ahead (Symbol class) = Unfit
refusal_ahead End = Unfinished
refusal_ahead (Faulty number) = Unfinished

-- 8 at a symbol, 9 at the end of the text
abbrev pub refused_next : ℕ → Next → Reading
refused_next size (Found symbol) = Refused no_list_goes_on symbol.start
refused_next size Ended = Refused ends_too_soon size
refused_next size (Fault number p) = Refused ends_too_soon size

-- the marks of an enclosed list, its kind, its level and its address
abbrev pub opening : Enclosure → Class
opening Angle = LessThan
opening Group = Colon

abbrev pub closing : Enclosure → Class
closing Angle = GreaterThan
closing Group = Semicolon

abbrev pub closes_ahead : Enclosure → Ahead → Bool
closes_ahead enclosure ahead = is_ahead (closing enclosure) ahead

-- what comes next closes an enclosed list
abbrev pub closes_next : Enclosure → Next → Bool
closes_next enclosure (Found symbol) = same_class (closing enclosure) symbol.class
closes_next enclosure Ended = false
closes_next enclosure (Fault number p) = false

abbrev pub enclosure_kind : Enclosure → ℕ
enclosure_kind Angle = 2
enclosure_kind Group = 3

abbrev pub level_in : Enclosure → Here → Option Phrase → Lexeme → Level
level_in Angle h o t = in_angle h o t
level_in Group h o t = in_group h o t

abbrev pub enclosed : Enclosure → Option Phrase → Lexeme → AddressList → Lexeme → Address
enclosed Angle o t l u = angle o t l u
enclosed Group o t l u = group o t l u

-- a nameless group does not go on with an atom and ":"
abbrev pub House : Enclosure → Option Phrase → List Sym → Type 0
House Angle o ys = Unit {0}
House Group none ys = atom_colon ys ≡ false
House Group (some p) ys = Unit {0}

-- one quoted-string
abbrev pub lone_quoted : Phrase → Bool
lone_quoted (one (atom_word t)) = false
lone_quoted (one (quoted_word t)) = true
lone_quoted (more p w) = false

-- ---- symbols by their places

module _ (classes text : List ℕ) where
  -- the symbols from a position on
  abbrev pub symbols_from : ℕ → List Sym
  symbols_from at = symbols_of (scan_by classes text at)

  abbrev pub lexeme_at : Class → ℕ → ℕ → Bool → Lexeme
  lexeme_at class start end apart = record { start = start; end = end; meaning = meaning_at classes text class start end; apart = apart }

  abbrev pub symbol_at : Class → ℕ → ℕ → Bool → Sym
  symbol_at class start end apart = of class (lexeme_at class start end apart)

  -- a symbol, and those after it
  abbrev pub symbols_on : Class → ℕ → ℕ → Bool → List Sym
  symbols_on class start end apart = symbol_at class start end apart ∷ symbols_from end

  -- the symbols from the next one on
  abbrev pub symbols_ahead : Next → List Sym
  symbols_ahead (Found symbol) = symbols_on symbol.class symbol.start symbol.end symbol.apart
  symbols_ahead Ended = []
  symbols_ahead (Fault number p) = []

  -- a symbol stands from a position to another
  pub record Standing (start end : ℕ) : Type 0 where
    pub starts : start < end
    pub within : end ≤ length text

  abbrev pub Comes : ℕ → Next → Type 0
  Comes low (Found symbol) = (low ≤ symbol.start) × Standing symbol.start symbol.end
  Comes low Ended = Unit {0}
  Comes low (Fault number p) = Unit {0}

  -- the first fault from a position on, and from what comes next on
  abbrev pub fault_from : ℕ → Answer
  fault_from at = fault_of (scan_by classes text at)

  abbrev pub fault_ahead : Next → Answer
  fault_ahead (Found symbol) = fault_from symbol.end
  fault_ahead Ended = Accepted 0
  fault_ahead (Fault number p) = fault_refused number p

  -- after reading, the fault that was first is first still
  abbrev pub Onward : Answer → Result Unit Refusal → Walk → Type 0
  Onward first (Ok u) walk = first ≡ fault_ahead (coming walk)
  Onward first (Err why) walk = Unit {0}

  -- ---- a phrase

  pub record FirstWord (class : Class) (start end : ℕ) : Type 0 where
    pub word : is_word class ≡ true
    pub stands : Standing start end

  abbrev pub NoWord : List Sym → Type 0
  NoWord [] = Unit {0}
  NoWord (x ∷ xs) = is_word x.class ≡ false

  -- a phrase that ends at a position goes on with further words
  pub record WordsIs (end : ℕ) (lone : Bool) (r : Words) : Type 0 where
    pub grow : Phrase → Phrase
    pub yields : (q : Phrase) → phrase_then q (symbols_from end) ≡ phrase_then (grow q) (symbols_ahead r.ahead)
    pub start_is : (q : Phrase) → phrase_start (grow q) ≡ phrase_start q
    pub end_is : (q : Phrase) → phrase_end q ≡ end → phrase_end (grow q) ≡ r.end
    pub lone_is : (q : Phrase) → lone ≡ lone_quoted q → r.lone ≡ lone_quoted (grow q)
    pub no_word : NoWord (symbols_ahead r.ahead)
    pub ahead_ok : Comes r.end r.ahead
    pub from : end ≤ r.end
    pub within : r.end ≤ length text

  -- .. told by a walk: the phrase's first word stands ahead before, and what follows the phrase after
  pub record PhraseIs (before : Walk) (lone : Bool) (r : Bool) (after : Walk) : Type 0 where
    pub words : WordsIs before.cursor.end lone record { ahead = coming after; end = after.last; lone = r }
    pub goes_on : fault_from before.cursor.end ≡ fault_ahead (coming after)
    pub free_kept : after.free ≡ before.free

  -- ---- nodes, after the "at" that stands from start to at, apart or not

  pub record NodesEnd (start at : ℕ) (apart : Bool) (ahead : Next) (last : ℕ) : Type 0 where
    pub nodes : Nodes
    pub yields : symbol_at At start at apart ∷ symbols_from at ≡ nodes_then nodes (symbols_ahead ahead)
    pub end_is : nodes_end nodes ≡ last
    pub ends : AddressEnds (symbols_ahead ahead)
    pub ahead_ok : Comes last ahead
    pub from : at < last
    pub within : last ≤ length text

  -- a refusal with a number and a place, of whatever the machine's verdicts speak of
  pub record Stops {A : Type 0} (Verdicts : A → Why → List Sym → Type 0) (number-told place : ℕ) : Type 0 where
    pub why : Why
    pub rest : List Sym
    pub number_is : number-told ≡ number why
    pub place_is : place ≡ start_of (length text) rest
    pub stops : (a : A) → Verdicts a why rest

  pub record NodesContext : Type 0 where
    pub limit : ℕ
    pub here : Here
    pub phrase : Phrase

  abbrev pub NodesIs : ℕ → ℕ → Bool → NodesRead → Type 0
  NodesIs start at apart (Behind ahead last) = NodesEnd start at apart ahead last
  NodesIs start at apart (Stopped number-told place) =
      Stops (λ (c : NodesContext) why rest. judge (run c.limit (first_at c.here c.phrase (lexeme_at At start at apart)) (symbols_from at)) ≡ refused why rest) number-told place

  -- .. told by a walk: the "at" stands ahead before
  pub record NodesOn (before after : Walk) : Type 0 where
    pub goes_on : fault_from before.cursor.end ≡ fault_ahead (coming after)
    pub free_kept : after.free ≡ before.free

  abbrev pub NodesKeep : Walk → Result Unit Refusal → Walk → Type 0
  NodesKeep before (Ok u) after = NodesOn before after
  NodesKeep before (Err why) after = Unit {0}

  abbrev pub NodesAre : Walk → Result Unit Refusal → Walk → Type 0
  NodesAre before r after = NodesIs before.cursor.start before.cursor.end (apart_in before.cursor) (nodes_read (length text) r after) × NodesKeep before r after

  -- ---- an atom and ":" after a ":"

  pub record TypedFollows (at start end behind : ℕ) : Type 0 where
    pub colon : Lexeme
    pub atom_apart : Bool
    pub yields : symbols_from at ≡ symbol_at Atom start end atom_apart ∷ of Colon colon ∷ symbols_from behind
    pub from : at ≤ start
    pub atom_starts : start < end
    pub end_before : end < behind
    pub within : behind ≤ length text

  -- the second ":" stands ahead
  pub record TypedOn (before : Walk) (atom : Span) (after : Walk) : Type 0 where
    pub follows : TypedFollows before.cursor.end atom.start atom.end after.cursor.end
    pub faults : fault_from before.cursor.end ≡ fault_from after.cursor.end
    pub free_kept : after.free ≡ before.free

  pub record NamelessOn (before after : Walk) : Type 0 where
    pub no_atom : atom_colon (symbols_from before.cursor.end) ≡ false
    pub free_kept : after.free ≡ before.free

  abbrev pub TypedAtomIs : Walk → std.Option Span → Walk → Type 0
  TypedAtomIs before (std.Some atom) after = TypedOn before atom after
  TypedAtomIs before std.None after = NamelessOn before after

  -- ---- an address

  -- the machine reads through these symbols, with so many levels left, wherever an address may stand
  pub record AddressRead (xs : List Sym) (frame : Frame) (start : ℕ) (table after : List ℕ) (ahead : Next) (last free : ℕ) : Type 0 where
    pub tree : Address
    pub reads : (h : Here) → Clear (fresh h) (atom_colon xs) → run (levels_here h + frame.level.left) (begin h) xs ≡ run (levels_here h + frame.level.left) (done_address h tree) (symbols_ahead ahead)
    pub ends : AddressEnds (symbols_ahead ahead)
    pub ahead_ok : Comes last ahead
    pub last_is : last ≡ address_end tree
    pub count : free ≡ frame.number + address_count tree
    pub stored : after ≡ sets table (frame.number * address_record_size) (table_bytes (address_records tree (level_limit - frame.level.left) frame.level.parent frame.number))
    pub from : start < last
    pub within : last ≤ length text
    pub free_low : free ≤ last

  abbrev pub AddressStops : List Sym → Frame → ℕ → ℕ → Type 0
  AddressStops xs frame number-told place =
      Stops (λ (h : Here) why rest. Clear (fresh h) (atom_colon xs) → judge (run (levels_here h + frame.level.left) (begin h) xs) ≡ refused why rest) number-told place

  abbrev pub AddressIs : List Sym → Frame → ℕ → List ℕ → List ℕ → Reading → Type 0
  AddressIs xs frame start table after (Read ahead last free) = AddressRead xs frame start table after ahead last free
  AddressIs xs frame start table after (Refused number-told place) = AddressStops xs frame number-told place

  -- the text is not too long, at most 64 levels are left, and there are no more records than bytes so far
  pub record Ready (frame : Frame) (start : ℕ) : Type 0 where
    pub short : length text ≤ message_limit
    pub levels_low : frame.level.left ≤ level_limit
    pub number_low : frame.number ≤ start

  -- a symbol that may begin an address, or fits nowhere, stands ahead
  pub record BeginsAddress (walk : Walk) (level : Left) : Type 0 where
    pub begins : ends_ahead (walk.cursor.ahead) ≡ false
    pub stands : Standing walk.cursor.start walk.cursor.end
    pub ready : Ready (frame_at level walk) walk.cursor.start

  -- symbols begin with a name, or none, and the mark of an enclosed list, which stands from a to b
  pub record Opening (enclosure : Enclosure) (xs : List Sym) (a b : ℕ) (span : Span) : Type 0 where
    pub name : Option Phrase
    pub apart : Bool
    pub yields : xs ≡ name_then name (symbol_at (opening enclosure) a b apart ∷ symbols_from b)
    pub start_is : span.start ≡ name_start name (lexeme_at (opening enclosure) a b apart)
    pub end_is : span.end ≡ name_end name (lexeme_at (opening enclosure) a b apart)
    pub house : House enclosure name (symbols_from b)

  -- a mark stands from a to b, after the start of its address
  pub record Opened (a b : ℕ) (span : Span) (frame : Frame) : Type 0 where
    pub stands : Standing a b
    pub behind : span.start ≤ a
    pub ready : Ready frame span.start

  -- .. ahead
  abbrev pub MarkAhead : Walk → Left → Span → Type 0
  MarkAhead walk level span = Opened walk.cursor.start walk.cursor.end span (frame_at level walk)

  -- symbols begin with a phrase, and then what is ahead
  pub record Named (xs : List Sym) (span : Span) (phrase : Phrase) (ahead : Next) : Type 0 where
    pub yields : xs ≡ phrase_then phrase (symbols_ahead ahead)
    pub start_is : phrase_start phrase ≡ span.start
    pub end_is : phrase_end phrase ≡ span.end

  -- ---- a list from a position on

  pub record ListRead (at : ℕ) (frame : Frame) (table after : List ℕ) (ahead : Next) (last free : ℕ) : Type 0 where
    pub tree : AddressList
    pub reads : (k : Level) → Clear (nameless k) (atom_colon (symbols_from at)) → run (levels_at k + frame.level.left) (list k (idle empty)) (symbols_from at) ≡ run (levels_at k + frame.level.left) (done_list k tree) (symbols_ahead ahead)
    pub ends : ListEnds (symbols_ahead ahead)
    pub ahead_ok : Comes last ahead
    pub count : free ≡ frame.number + list_count tree
    pub stored : after ≡ sets table (frame.number * address_record_size) (table_bytes (list_records tree (level_limit - frame.level.left) frame.level.parent frame.number))
    pub from : at ≤ last
    pub within : last ≤ length text
    pub free_low : free ≤ last

  abbrev pub ListStops : ℕ → Frame → ℕ → ℕ → Type 0
  ListStops at frame number-told place =
      Stops (λ (k : Level) why rest. Clear (nameless k) (atom_colon (symbols_from at)) → judge (run (levels_at k + frame.level.left) (list k (idle empty)) (symbols_from at)) ≡ refused why rest) number-told place

  -- .. up to some last symbol
  pub record ListDone (at : ℕ) (frame : Frame) (table after : List ℕ) (ahead : Next) (free : ℕ) : Type 0 where
    pub last : ℕ
    pub read : ListRead at frame table after ahead last free

  abbrev pub ListReads : ℕ → Frame → List ℕ → List ℕ → Result Unit Refusal → Walk → Type 0
  ListReads at frame table after (Ok u) walk = ListDone at frame table after (coming walk) walk.free
  ListReads at frame table after (Err why) walk = ListStops at frame (number_told why) (place_told (length text) why walk)

  -- told by a walk: the list begins where the symbol ends that stands ahead
  abbrev pub ListIs : Walk → Left → List ℕ → List ℕ → Result Unit Refusal → Walk → Type 0
  ListIs before level table after r walk =
      ListReads before.cursor.end (frame_at level before) table after r walk × Onward (fault_from before.cursor.end) r walk

  pub record Entered (walk : Walk) (level : Left) : Type 0 where
    pub inside : walk.cursor.end ≤ length text
    pub ready : Ready (frame_at level walk) walk.cursor.end

  -- ---- the functions of the cycle

  -- the address that begins with the symbol ahead
  abbrev pub AddressAhead : Walk → Left → List ℕ → List ℕ → Result Unit Refusal → Walk → Type 0
  AddressAhead before level table after r walk =
      AddressIs (symbols_ahead (coming before)) (frame_at level before) before.cursor.start table after (reading (length text) r walk) × Onward (fault_from before.cursor.end) r walk

  abbrev pub MailboxIs : Walk → Left → Span → List ℕ → List ℕ → Result Unit Refusal → Walk → Type 0
  MailboxIs before level span table after r walk =
      ((xs : List Sym) (phrase : Phrase) → Named xs span phrase (found_at At before.cursor.start before.cursor.end before.cursor.length (apart_in before.cursor)) → AddressIs xs (frame_at level before) span.start table after (reading (length text) r walk))
      × Onward (fault_from before.cursor.end) r walk

  -- what follows a phrase, and is neither a word nor a mark of an address
  abbrev pub follows_phrase : Class → Bool
  follows_phrase c = one_of (Atom ∷ Quoted ∷ At ∷ LessThan ∷ Colon ∷ []) c

  abbrev pub NoMark : Next → Type 0
  NoMark (Found symbol) = follows_phrase symbol.class ≡ false
  NoMark Ended = Unit {0}
  NoMark (Fault number p) = Unit {0}

  pub record Lone (ahead : Next) (span : Span) (frame : Frame) : Type 0 where
    pub no_mark : NoMark ahead
    pub ahead_ok : Comes span.end ahead
    pub not_empty : span.start < span.end
    pub within : span.end ≤ length text
    pub ready : Ready frame span.start

  pub record LoneAhead (walk : Walk) (level : Left) (span : Span) : Type 0 where
    pub lone : Lone (coming walk) span (frame_at level walk)
    pub last_is : walk.last ≡ span.end

  abbrev pub LoneIs : Walk → Left → Bool → Span → List ℕ → List ℕ → Result Unit Refusal → Walk → Type 0
  LoneIs before level lone span table after r walk =
      ((xs : List Sym) (phrase : Phrase) → Named xs span phrase (coming before) → lone ≡ lone_quoted phrase → AddressIs xs (frame_at level before) span.start table after (reading (length text) r walk))
      × Onward (fault_ahead (coming before)) r walk

  -- the frame of what lies in an address
  abbrev pub inner : Frame → Frame
  inner frame = record { level = record { left = frame.level.left - 1; parent = frame.number + 1 }; number = frame.number + 1 }

  abbrev pub CloseIs : Walk → Frame → Enclosure → Span → List ℕ → List ℕ → Result Unit Refusal → Walk → Type 0
  CloseIs before frame enclosure span between after r walk =
      ((xs : List Sym) (a b low : ℕ) (table : List ℕ) → Opening enclosure xs a b span → Opened a b span frame → (frame.level.left ≡ 0 → ⊥) → ListRead b (inner frame) table between (coming before) low before.free
      → AddressIs xs frame span.start table after (reading (length text) r walk))
      × Onward (fault_ahead (coming before)) r walk

  abbrev pub EnclosedIs : Walk → Left → Enclosure → Span → List ℕ → List ℕ → Result Unit Refusal → Walk → Type 0
  EnclosedIs before level enclosure span table after r walk =
      ((xs : List Sym) → Opening enclosure xs before.cursor.start before.cursor.end span → AddressIs xs (frame_at level before) span.start table after (reading (length text) r walk))
      × Onward (fault_from before.cursor.end) r walk

  pub record NamedFirst (walk : Walk) (level : Left) : Type 0 where
    pub class : Class
    pub ahead_is : walk.cursor.ahead ≡ Symbol class
    pub first : FirstWord class walk.cursor.start walk.cursor.end
    pub ready : Ready (frame_at level walk) walk.cursor.start

  pub record ColonFirst (walk : Walk) (level : Left) : Type 0 where
    pub ahead_is : walk.cursor.ahead ≡ Symbol Colon
    pub stands : Standing walk.cursor.start walk.cursor.end
    pub ready : Ready (frame_at level walk) walk.cursor.start

  -- a ":" stands from start to end, and then the atom and ":" of a typed address up to a position
  pub record TypedFirst (start end : ℕ) (atom : Span) (behind : ℕ) (frame : Frame) : Type 0 where
    pub stands : Standing start end
    pub ready : Ready frame start
    pub follows : TypedFollows end atom.start atom.end behind

  pub record TypedAhead (walk : Walk) (level : Left) (start : ℕ) (atom : Span) : Type 0 where
    pub end : ℕ
    pub first : TypedFirst start end atom walk.cursor.end (frame_at level walk)

  abbrev pub TypedIs : Walk → Left → ℕ → Span → List ℕ → List ℕ → Result Unit Refusal → Walk → Type 0
  TypedIs before level start atom table after r walk =
      ((end : ℕ) (apart : Bool) → TypedFirst start end atom before.cursor.end (frame_at level before)
      → AddressIs (symbols_on Colon start end apart) (frame_at level before) start table after (reading (length text) r walk))
      × Onward (fault_from before.cursor.end) r walk
