-- The executable layer: the address rules of RFC 822 as trees, a constructor for a rule with its parts as fields, and a tree as a derivation. Nothing here needs to be believed: what the verdict is `Decides` says, over the grammar alone.
use Rattle.std.specs.Prelude.{ℕ, [], get_or}
use Rattle.grammar.specs.Believed.Grammar.{Forest, nil, leaf}
use Rattle.grammar.specs.Believed.Rfc733.{plain}
use Rattle.grammar.specs.Believed.Rfc822.{rules_of, Nonterminal, list, slot, address, boxes, box_slot, mailbox, route_addr, addr_spec, route, hops, empty_slots, local_part, domain, sub_domain, phrase, word}
pub use Rattle.grammar.specs.Executable.Pieces.{Piece, piece, put}
pub use Rattle.grammar.specs.Executable.Trees733.{Class, Atom, Quoted, At, LessThan, GreaterThan, Comma, Semicolon, Colon, Stray, Dot, Literal, Lexeme, Sym, of, Word, atom_word, quoted_word, Phrase, one, more}

-- ---- trees

pub data Sub : Type 0 where
  atom_sub literal_sub : Lexeme → Sub

pub data Domain : Type 0 where
  one_sub : Sub → Domain
  more_sub : Domain → Lexeme → Sub → Domain

pub data Local : Type 0 where
  one_word : Word → Local
  more_word : Local → Lexeme → Word → Local

pub data Spec : Type 0 where
  spec : Local → Lexeme → Domain → Spec

pub data Empties : Type 0 where
  no_empty : Empties
  one_empty : Empties → Lexeme → Empties

pub data Hops : Type 0 where
  first_hop : Empties → Lexeme → Domain → Hops
  next_hop : Hops → Lexeme → Empties → Lexeme → Domain → Hops

pub data Route : Type 0 where
  direct : Hops → Lexeme → Route
  trailing : Hops → Lexeme → Empties → Lexeme → Route

pub data RouteAddr : Type 0 where
  no_route : Lexeme → Spec → Lexeme → RouteAddr
  with_route : Lexeme → Route → Spec → Lexeme → RouteAddr

pub data Mailbox : Type 0 where
  bare : Spec → Mailbox
  angle : Phrase → Lexeme → Spec → Lexeme → Mailbox
  routed : Phrase → Lexeme → Route → Spec → Lexeme → Mailbox

mutual
  pub data Slot (E : Type 0) : Type 0 where
    empty : Slot E
    comma : Listed E → Lexeme → Slot E

  pub data Listed (E : Type 0) : Type 0 where
    idle : Slot E → Listed E
    full : Slot E → E → Listed E

pub data Address : Type 0 where
  box : Mailbox → Address
  group : Phrase → Lexeme → Listed Mailbox → Lexeme → Address

-- ---- each tree as a rule and the forest of its parts

abbrev pub Bit : Type 0
Bit = Piece Class Nonterminal

-- the i-th rule of a nonterminal, with these parts
abbrev pub bit : Nonterminal → ℕ → Forest Class Nonterminal → Bit
bit A i p = piece (get_or (rules_of A) i (plain [])) p

abbrev then : Class → Lexeme → Forest Class Nonterminal → Forest Class Nonterminal
then c t k = leaf (of c t) k

abbrev pub word_piece : Word → Bit
word_piece (atom_word t) = bit word 0 (then Atom t nil)
word_piece (quoted_word t) = bit word 1 (then Quoted t nil)

abbrev pub phrase_piece : Phrase → Bit
phrase_piece (one w) = bit phrase 0 (put (word_piece w) nil)
phrase_piece (more p w) = bit phrase 1 (put (phrase_piece p) (put (word_piece w) nil))

abbrev pub sub_piece : Sub → Bit
sub_piece (atom_sub t) = bit sub_domain 0 (then Atom t nil)
sub_piece (literal_sub t) = bit sub_domain 1 (then Literal t nil)

abbrev pub domain_piece : Domain → Bit
domain_piece (one_sub s) = bit domain 0 (put (sub_piece s) nil)
domain_piece (more_sub m t s) = bit domain 1 (put (domain_piece m) (then Dot t (put (sub_piece s) nil)))

abbrev pub local_piece : Local → Bit
local_piece (one_word w) = bit local_part 0 (put (word_piece w) nil)
local_piece (more_word l t w) = bit local_part 1 (put (local_piece l) (then Dot t (put (word_piece w) nil)))

abbrev pub spec_piece : Spec → Bit
spec_piece (spec l t m) = bit addr_spec 0 (put (local_piece l) (then At t (put (domain_piece m) nil)))

abbrev pub empties_piece : Empties → Bit
empties_piece no_empty = bit empty_slots 0 nil
empties_piece (one_empty g t) = bit empty_slots 1 (put (empties_piece g) (then Comma t nil))

abbrev pub hops_piece : Hops → Bit
hops_piece (first_hop g t m) = bit hops 0 (put (empties_piece g) (then At t (put (domain_piece m) nil)))
hops_piece (next_hop h u g t m) = bit hops 1 (put (hops_piece h) (then Comma u (put (empties_piece g) (then At t (put (domain_piece m) nil)))))

abbrev pub route_piece : Route → Bit
route_piece (direct h t) = bit route 0 (put (hops_piece h) (then Colon t nil))
route_piece (trailing h u g t) = bit route 1 (put (hops_piece h) (then Comma u (put (empties_piece g) (then Colon t nil))))

abbrev pub route_addr_piece : RouteAddr → Bit
route_addr_piece (no_route t s u) = bit route_addr 0 (then LessThan t (put (spec_piece s) (then GreaterThan u nil)))
route_addr_piece (with_route t r s u) = bit route_addr 1 (then LessThan t (put (route_piece r) (put (spec_piece s) (then GreaterThan u nil))))

abbrev pub mailbox_piece : Mailbox → Bit
mailbox_piece (bare s) = bit mailbox 0 (put (spec_piece s) nil)
mailbox_piece (angle p t s u) = bit mailbox 1 (put (phrase_piece p) (put (route_addr_piece (no_route t s u)) nil))
mailbox_piece (routed p t r s u) = bit mailbox 1 (put (phrase_piece p) (put (route_addr_piece (with_route t r s u)) nil))

abbrev mutual
  pub box_slot_piece : Slot Mailbox → Bit
  box_slot_piece empty = bit box_slot 0 nil
  box_slot_piece (comma l t) = bit box_slot 1 (put (boxes_piece l) (then Comma t nil))

  pub boxes_piece : Listed Mailbox → Bit
  boxes_piece (idle r) = bit boxes 1 (put (box_slot_piece r) nil)
  boxes_piece (full r b) = bit boxes 0 (put (box_slot_piece r) (put (mailbox_piece b) nil))

abbrev pub address_piece : Address → Bit
address_piece (box b) = bit address 0 (put (mailbox_piece b) nil)
address_piece (group p t l u) = bit address 1 (put (phrase_piece p) (then Colon t (put (boxes_piece l) (then Semicolon u nil))))

abbrev mutual
  pub slot_piece : Slot Address → Bit
  slot_piece empty = bit slot 0 nil
  slot_piece (comma l t) = bit slot 1 (put (list_piece l) (then Comma t nil))

  pub list_piece : Listed Address → Bit
  list_piece (idle r) = bit list 1 (put (slot_piece r) nil)
  list_piece (full r a) = bit list 0 (put (slot_piece r) (put (address_piece a) nil))

-- a tree as a derivation
abbrev pub as_forest : Listed Address → Forest Class Nonterminal
as_forest l = put (list_piece l) nil
