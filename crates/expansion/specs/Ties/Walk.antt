-- The text of an expanded list by one walk over symbols that goes on through stored lists, each of them as if it stood between two commas.
-- Nothing here needs to be believed: it is proved to be the plain text of the expansion.
use Rattle.std.specs.Prelude.{ℕ, zero, suc, ◌+◌, Bool, true, false, not, List, [], ◌∷◌, Option, None, Some, eqb, ltb, leb, length}
use Rattle.octets.specs.Believed.Choice.{pick, both}
use Rattle.octets.specs.Believed.Numbers.{level_limit, opening_limit, too_many_levels, leads_nowhere, too_many_openings}
use Rattle.scanner.specs.Believed.Symbols.{Symbol}
use Rattle.scanner.specs.Believed.Scanning.{scan, symbols_of}
use Rattle.scanner.specs.declared.Class.{Class}
use Rattle.scanner.specs.declared.Class.TheVariants.{Atom, At, LessThan, GreaterThan, Comma, Colon}
use Rattle.grammar.specs.Believed.Grammar.{levels, begins}
use Rattle.grammar.specs.Believed.Rfc733.{same_class, kind_number, typed_kind, include}
use Rattle.grammar.proofs.Rfc733.Readers.{ends_address, ends_list}
use Rattle.plain.specs.Ties.Walking.{symbol_text, after, after_atom, after_comma, colon_next, walk_text}
use Rattle.plain.specs.declared.places.Place.{Place}
use Rattle.plain.specs.declared.places.Place.TheVariants.{Start, Bare, BareComma, Named, Typing, Word, Node, Closed, Parted}
use Rattle.expansion.specs.Believed.Store.{lowest, or_else, list_in}
use Rattle.addresses.specs.Believed.Outcome.{body_read}
use Rattle.addresses.specs.Ties.Steps.{is_word}
use Rattle.expansion.specs.declared.text.Seen.{Seen}
use Rattle.expansion.specs.declared.text.Seen.TheVariants.{Nothing, Words, Nodes}

-- a symbol
abbrev pub Sym : Type 0
Sym = Symbol Class

-- ---- what is written

-- a walk halts with a number, a position and the openings so far; or it wrote a text, with so many openings
pub data Trail : Type 0 where
  halted : ℕ → ℕ → ℕ → Trail
  wrote : List ℕ → ℕ → Trail

-- a text before it
abbrev pub before : (List ℕ → List ℕ) → Trail → Trail
before f (halted n p u) = halted n p u
before f (wrote t u) = wrote (f t) u

-- ---- levels that are open, the innermost first; true for a typed address

-- typed addresses end with what they hold
abbrev pub without_typed : List Bool → List Bool
without_typed [] = []
without_typed (true ∷ s) = without_typed s
without_typed (false ∷ s) = false ∷ s

-- one less
abbrev pub without_one : List Bool → List Bool
without_one [] = []
without_one (x ∷ s) = s

-- one more; there are never more than 64
abbrev pub with_list : List Bool → List Bool
with_list s = pick (ltb (length s) level_limit) (false ∷ s) s

-- the innermost is a typed address after all
abbrev pub with_typed : List Bool → List Bool
with_typed [] = []
with_typed (x ∷ s) = true ∷ s

-- the innermost is a typed address
abbrev pub in_typed : List Bool → Bool
in_typed [] = false
in_typed (x ∷ s) = x

-- after the atom of a typed address
abbrev pub is_typing : Place → Bool
is_typing Start = false
is_typing Bare = false
is_typing BareComma = false
is_typing Named = false
is_typing Typing = true
is_typing Word = false
is_typing Node = false
is_typing Closed = false
is_typing Parted = false

-- the levels after a symbol
abbrev pub levels_after : Class → Place → Bool → List Bool → List Bool
levels_after class place colon s =
    pick (ends_list class) (without_one (without_typed s))
    (pick (same_class Atom class) (pick (is_typing (after_atom place colon)) (with_typed s) s)
    (pick (same_class Colon class) (pick (is_typing place) s (with_list s))
    (pick (same_class LessThan class) (with_list s)
    (pick (same_class Comma class) (without_typed s) s))))

-- ---- what an Include leads to

-- symbols up to the end of an address
abbrev pub until_end : List Sym → List Sym
until_end [] = []
until_end (x ∷ xs) = pick (ends_address x.class) [] (x ∷ until_end xs)

-- what an Include holds: a mailbox, an angle list from after its "<", or neither
pub data Held : Type 0 where
  single neither : Held
  angled : List Sym → Held

-- .. by the class of a symbol, the symbols after it, and what these say
abbrev pub held_from : Class → List Sym → Held → Held
held_from class xs r = pick (is_word class) r (pick (same_class At class) single (pick (same_class LessThan class) (angled xs) neither))

-- .. by the symbols after its second ":"
abbrev pub held_by : List Sym → Held
held_by [] = neither
held_by (x ∷ xs) = held_from x.class xs (held_by xs)

-- a word is read
abbrev pub word_seen : Seen → Seen
word_seen Nothing = Words
word_seen Words = Words
word_seen Nodes = Nodes

-- words without nodes are read
abbrev pub is_words : Seen → Bool
is_words Nothing = false
is_words Words = true
is_words Nodes = false

-- a symbol of an angle list, and whether the rest holds mailboxes only, by what is read so far of an address
abbrev pub only_from : Class → Seen → (Seen → Bool) → Bool
only_from class seen rest =
    pick (is_word class) (rest (word_seen seen))
    (pick (same_class At class) (rest Nodes)
    (pick (same_class Comma class) (both (not (is_words seen)) (rest Nothing)) (both (same_class GreaterThan class) (not (is_words seen)))))

-- mailboxes only, up to ">"
abbrev pub only : Seen → List Sym → Bool
only seen [] = false
only seen (x ∷ xs) = only_from x.class seen (λ seen'. only seen' xs)

-- the first symbol is the atom of an Include
abbrev pub include_word : List Sym → Bool
include_word [] = false
include_word (x ∷ xs) = eqb (kind_number (typed_kind x.lexeme.meaning)) (kind_number include)

-- it is an atom, and ":" comes next
abbrev pub include_next : List Sym → Bool
include_next xs = both (begins same_class (Atom ∷ Colon ∷ []) xs) (include_word xs)

-- an address can begin here
abbrev pub opens : Place → Bool
opens Start = true
opens Bare = true
opens BareComma = true
opens Named = true
opens Typing = false
opens Word = false
opens Node = false
opens Closed = false
opens Parted = true

-- an Include begins with a symbol of this class at this place, before these
abbrev pub include_here : Class → Place → List Sym → Bool
include_here class place xs = both (same_class Colon class) (both (opens place) (include_next xs))

-- all but the first
abbrev pub after_one : List Sym → List Sym
after_one [] = []
after_one (x ∷ xs) = xs

-- what a walk does with symbols: it writes them, or skips those of an Include that was opened, in its angle list or not
pub data Mode : Type 0 where
  writing : Mode
  skipping : Bool → Mode

-- what follows a symbol of an Include is in its angle list
abbrev pub inner_after : Class → Bool → Bool
inner_after class inner = pick (same_class LessThan class) true (pick (same_class GreaterThan class) false inner)

-- the opening of a record: its number, the position and the levels around, the place, the openings, and what follows
abbrev pub WalkOpening : Type 0
WalkOpening = ℕ → ℕ → ℕ → Place → ℕ → (Place → ℕ → Trail) → Trail

module _ (store : List ℕ) where
  -- the record with the plain text of the address that begins with these symbols
  abbrev pub named_by : List Sym → Option ℕ
  named_by xs = lowest store (walk_text Start (until_end xs))

  -- of the addresses up to ">" the first that is a record's name; `starts`: an address begins here
  abbrev pub first_of : Bool → List Sym → Option ℕ
  first_of starts [] = None
  first_of starts (x ∷ xs) =
      pick (same_class GreaterThan x.class) None (pick (same_class Comma x.class) (first_of true xs) (or_else (pick starts (named_by (x ∷ xs)) None) (first_of false xs)))

  -- the record that an Include leads to, by what it holds
  abbrev pub sought_by : Held → List Sym → Option ℕ
  sought_by single xs = named_by xs
  sought_by neither xs = None
  sought_by (angled ys) xs = pick (only Nothing ys) (first_of true ys) None

  -- .. by the symbols after its second ":"
  abbrev pub sought : List Sym → Option ℕ
  sought xs = sought_by (held_by xs) xs

  -- an Include before these symbols: the record that it leads to is opened
  abbrev pub include_trail : WalkOpening → Bool → ℕ → ℕ → Place → List Sym → ℕ → (Place → ℕ → Trail) → Trail
  include_trail opening typed position depth place xs u next =
      elim (pick typed None (sought (after_one (after_one xs)))) [ None ↦ halted leads_nowhere position u | Some i ↦ opening i position depth (after_comma place) u next ]

  module _ (opening : WalkOpening) (place_of : ℕ → ℕ) (base : ℕ) where
    -- a walk over symbols from a place on, with these levels open in this text and `base` around it
    abbrev pub walk : Mode → Place → List Bool → List Sym → ℕ → (Place → ℕ → Trail) → Trail
    walk mode place s [] u next = next (after_comma place) u
    walk writing place s (x ∷ xs) u next =
        pick (include_here x.class place xs)
        (include_trail opening (in_typed s) (place_of x.lexeme.start) (base + length s) place xs u (λ place' u'. walk (skipping false) place' s xs u' next))
        (before (λ rest. symbol_text x.class x.lexeme.meaning place (colon_next xs) rest)
        (walk writing (after x.class place (colon_next xs)) (levels_after x.class place (colon_next xs) s) xs u next))
    walk (skipping inner) place s (x ∷ xs) u next =
        pick (pick inner false (ends_address x.class))
        (before (λ rest. symbol_text x.class x.lexeme.meaning place (colon_next xs) rest)
        (walk writing (after x.class place (colon_next xs)) (levels_after x.class place (colon_next xs) s) xs u next))
        (walk (skipping (inner_after x.class inner)) place s xs u next)

  -- a record's list walked in place of an Include, where at most so many openings may lie in each other
  abbrev pub walk_within : ℕ → ℕ → ℕ → ℕ → Place → ℕ → (Place → ℕ → Trail) → Trail
  walk_within zero i position base place u next = halted too_many_openings position u
  walk_within (suc deep) i position base place u next =
      let list = list_in store i in
      pick (leb opening_limit u) (halted too_many_openings position u)
      (body_read (λ n p. halted n i u)
      (λ k. pick (ltb level_limit (base + levels k)) (halted too_many_levels position u)
      (walk (λ i' p' b' l' u' n'. walk_within deep i' p' b' l' u' n') (λ start. position) base writing place [] (symbols_of (scan list 0)) (suc u) next))
      list 0 (length list))

  -- .. and the body
  abbrev pub walked : List Sym → Trail
  walked xs = walk (λ i p b l u n. walk_within opening_limit i p b l u n) (λ start. start) 0 writing Start [] xs 0 (λ place u. wrote [] u)
