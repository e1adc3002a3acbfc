-- The executable layer: the address rules of RFC 733 as trees, a constructor for a rule with its parts as fields, and a tree as a derivation. Nothing here needs to be believed: what the verdict is `Decides` says, over the grammar alone.
use Rattle.std.specs.Prelude.{ℕ, Bool, false, List, [], ◌∷◌, get_or}
use Rattle.std.proofs.Math.Option.{Option, none, some}
use Rattle.octets.specs.Believed.Choice.{either}
use Rattle.grammar.specs.Believed.Grammar.{Rule, nil, leaf}
use Rattle.grammar.specs.Believed.Rfc733.{same_class, plain, rules_of, Nonterminal, list, slot, address, phrase, at_nodes, node, word, Derivation}
pub use Rattle.grammar.specs.Executable.Pieces.{Piece, piece, put}
pub use Rattle.scanner.specs.Believed.Symbols.{Lexeme, Symbol}
pub use Rattle.scanner.specs.declared.Class.{Class}
pub use Rattle.scanner.specs.declared.Class.TheVariants.{Atom, Quoted, At, LessThan, GreaterThan, Comma, Semicolon, Colon, Stray, Dot, Literal}

abbrev pub Sym : Type 0
Sym = Symbol Class

-- the symbol of a class with a lexeme
abbrev pub of : Class → Lexeme → Sym
of c t = record { class = c; lexeme = t }

-- a class is one of these
abbrev pub one_of : List Class → Class → Bool
one_of [] c = false
one_of (d ∷ ds) c = either (same_class d c) (one_of ds c)

-- word: atom or quoted-string
pub data Word : Type 0 where
  atom_word quoted_word : Lexeme → Word

-- phrase: one or more words
pub data Phrase : Type 0 where
  one : Word → Phrase
  more : Phrase → Word → Phrase

-- one or more of ("at" or "@", node)
pub data Nodes : Type 0 where
  first : Lexeme → Word → Nodes
  next : Nodes → Lexeme → Word → Nodes

mutual
  -- slot: at the start, or after a list and a comma
  pub data Slot : Type 0 where
    empty : Slot
    comma : AddressList → Lexeme → Slot

  -- list: a slot, with an address or without
  pub data AddressList : Type 0 where
    idle : Slot → AddressList
    full : Slot → Address → AddressList

  -- address: the lexemes are those of the marks, and of the quoted-string and the typed atom
  pub data Address : Type 0 where
    mailbox : Phrase → Nodes → Address
    angle : Option Phrase → Lexeme → AddressList → Lexeme → Address
    group : Option Phrase → Lexeme → AddressList → Lexeme → Address
    quoted : Lexeme → Address
    typed : Lexeme → Lexeme → Lexeme → Address → Address

-- the i-th rule of a nonterminal
abbrev pub rule_of : Nonterminal → ℕ → Rule Class Nonterminal
rule_of A i = get_or (rules_of A) i (plain [])

-- ---- each tree as a rule and the forest of its parts

abbrev pub Bit : Type 0
Bit = Piece Class Nonterminal

-- the i-th rule of a nonterminal, with these parts
abbrev pub bit : Nonterminal → ℕ → Derivation → Bit
bit A i p = piece (rule_of A i) p

abbrev then : Class → Lexeme → Derivation → Derivation
then c t k = leaf (of c t) k

abbrev pub word_piece : Word → Bit
word_piece (atom_word t) = bit word 0 (then Atom t nil)
word_piece (quoted_word t) = bit word 1 (then Quoted t nil)

abbrev pub phrase_piece : Phrase → Bit
phrase_piece (one w) = bit phrase 0 (put (word_piece w) nil)
phrase_piece (more p w) = bit phrase 1 (put (phrase_piece p) (put (word_piece w) nil))

abbrev pub node_piece : Word → Bit
node_piece w = bit node 0 (put (word_piece w) nil)

abbrev pub nodes_piece : Nodes → Bit
nodes_piece (first t w) = bit at_nodes 0 (then At t (put (node_piece w) nil))
nodes_piece (next m t w) = bit at_nodes 1 (put (nodes_piece m) (then At t (put (node_piece w) nil)))

abbrev mutual
  pub slot_piece : Slot → Bit
  slot_piece empty = bit slot 0 nil
  slot_piece (comma l t) = bit slot 1 (put (list_piece l) (then Comma t nil))

  pub list_piece : AddressList → Bit
  list_piece (idle r) = bit list 1 (put (slot_piece r) nil)
  list_piece (full r a) = bit list 0 (put (slot_piece r) (put (address_piece a) nil))

  pub address_piece : Address → Bit
  address_piece (mailbox p m) = bit address 0 (put (phrase_piece p) (put (nodes_piece m) nil))
  address_piece (angle none t l u) = bit address 2 (then LessThan t (put (list_piece l) (then GreaterThan u nil)))
  address_piece (angle (some p) t l u) = bit address 1 (put (phrase_piece p) (then LessThan t (put (list_piece l) (then GreaterThan u nil))))
  address_piece (group none t l u) = bit address 4 (then Colon t (put (list_piece l) (then Semicolon u nil)))
  address_piece (group (some p) t l u) = bit address 3 (put (phrase_piece p) (then Colon t (put (list_piece l) (then Semicolon u nil))))
  address_piece (quoted t) = bit address 5 (then Quoted t nil)
  address_piece (typed t a u b) = bit address 6 (then Colon t (then Atom a (then Colon u (put (address_piece b) nil))))

-- a tree as a derivation
abbrev pub as_forest : AddressList → Derivation
as_forest l = put (list_piece l) nil
