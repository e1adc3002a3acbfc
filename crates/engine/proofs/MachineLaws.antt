-- What the table does in each mode is what the machine of the grammar does. Assumes nothing.
use Prim.Native.Nat.{ℕ}
use mathlib.Core.Path.{◌≡◌, refl, ap}
use mathlib.Core.Option.{Option, none, some}
use native.Mathlib.Omega.{arith}
use Rattle.grammar.specs.Believed.Language.{unfit}
use Rattle.grammar.specs.Executable.Machines.{go, stop}
use Rattle.grammar.specs.Executable.Trees733.{Class, Atom, Quoted, At, LessThan, GreaterThan, Comma, Semicolon, Colon, Stray, Dot, Literal, Lexeme, Word, atom_word, quoted_word, Phrase, one, more, Nodes, first, next, Slot, empty, comma, AddressList, idle, full, Address, mailbox, quoted}
use Rattle.grammar.specs.Executable.Machine733.{Here, in_list, in_typed, Level, top, in_angle, in_group, State, list, phrase, first_at, next_at, node, want, close, enter, Began, fresh, phrase_colon, step_on, finish, whole_of, complete, on_greater_than, on_comma, on_semicolon}
use Rattle.grammar.proofs.Rfc733.Complete.{begin}
use Rattle.engine.specs.declared.actions.Mode.{Mode}
use Rattle.engine.specs.declared.actions.Mode.TheVariants.{AtPlace, Wanting, AtWords, AfterAddress}
use Rattle.engine.specs.declared.actions.Act.{Act}
use Rattle.engine.specs.declared.actions.Act.TheVariants.{Refuse, Begin, Add, Pass, Open, OpenNamed, TurnTyped, EndAtComma, Close, EndAndClose}
use Rattle.engine.specs.declared.actions.Action.{Action}
use Rattle.engine.specs.declared.actions.End.{End}
use Rattle.engine.specs.declared.actions.End.TheVariants.{TooSoon, OfList, OfAddress}
use Rattle.engine.specs.Ties.Actions.{◌then◌, place_row, words_row, row_of, on_class, action_of}
use Rattle.engine.specs.Ties.Stands.{place_mode, atom_mode, mode_of}
use Rattle.engine.specs.Ties.Turns.{is_angle, level_if, end_if, Ended, lone, boxed}

-- ---- what each act is, of the machine with at most `n` levels in the state `s` at a symbol

-- a word of a class
pub data WordIs : Class → Lexeme → Word → Type 0 where
  atom_is : {t : Lexeme} → WordIs Atom t (atom_word t)
  quoted_is : {t : Lexeme} → WordIs Quoted t (quoted_word t)

-- a word begins an address
pub record Begins (mode : Mode) (n : ℕ) (s : State) (c : Class) (t : Lexeme) : Type 0 where
  pub here : Here
  pub word : Word
  pub at : s ≡ begin here
  pub is : WordIs c t word
  pub steps : step_on n s c t ≡ go (phrase here (one word))
  pub mode_is : mode_of (phrase here (one word)) ≡ mode

-- a further word of its phrase
pub record Adds (mode : Mode) (n : ℕ) (s : State) (c : Class) (t : Lexeme) : Type 0 where
  pub here : Here
  pub sofar : Phrase
  pub word : Word
  pub at : s ≡ phrase here sofar
  pub is : WordIs c t word
  pub steps : step_on n s c t ≡ go (phrase here (more sofar word))
  pub mode_is : AtWords ≡ mode

-- a step that changes no record and no level
pub data Keeps (t : Lexeme) : State → State → Type 0 where
  to_at : {h : Here} {p : Phrase} → Keeps t (phrase h p) (first_at h p t)
  to_next_at : {h : Here} {p : Phrase} {m : Nodes} → Keeps t (node h p m) (next_at h p m t)
  to_node : {h : Here} {p : Phrase} {v : Lexeme} (c : Class) {w : Word} → WordIs c t w → Keeps t (first_at h p v) (node h p (first v w))
  to_next_node : {h : Here} {p : Phrase} {m : Nodes} {v : Lexeme} (c : Class) {w : Word} → WordIs c t w → Keeps t (next_at h p m v) (node h p (next m v w))
  to_place : {k : Level} {l : AddressList} → Keeps t (list k l) (list k (idle (comma l t)))

-- only the mode changes
pub record Passes (mode : Mode) (n : ℕ) (s : State) (c : Class) (t : Lexeme) : Type 0 where
  pub after : State
  pub keeps : Keeps t s after
  pub steps : step_on n s c t ≡ go after
  pub mode_is : mode_of after ≡ mode

-- a level is opened without a name, if the limit allows it
pub record Opens (mode : Mode) (n : ℕ) (s : State) (c : Class) (t : Lexeme) : Type 0 where
  pub here : Here
  pub at : s ≡ begin here
  pub steps : step_on n s c t ≡ enter n (level_if (is_angle c) here none t)
  pub mode_is : mode_of (list (level_if (is_angle c) here none t) (idle empty)) ≡ mode

-- .. after a name
pub record OpensNamed (mode : Mode) (n : ℕ) (s : State) (c : Class) (t : Lexeme) : Type 0 where
  pub here : Here
  pub name : Phrase
  pub at : s ≡ phrase here name
  pub steps : step_on n s c t ≡ enter n (level_if (is_angle c) here (some name) t)
  pub mode_is : mode_of (list (level_if (is_angle c) here (some name) t) (idle empty)) ≡ mode

-- after ":" and an atom: the nameless group that was opened turns typed, and no level is opened
pub record TurnsTyped (mode : Mode) (n : ℕ) (s : State) (c : Class) (t : Lexeme) : Type 0 where
  pub here : Here
  pub colon : Lexeme
  pub atom : Lexeme
  pub at : s ≡ phrase (in_list (in_group here none colon) empty) (one (atom_word atom))
  pub steps : step_on n s c t ≡ go (want here colon atom t)
  pub mode_is : Wanting ≡ mode

-- an address ends, with the typed addresses around it, and a place follows
pub record EndsAtComma (mode : Mode) (n : ℕ) (s : State) (c : Class) (t : Lexeme) : Type 0 where
  pub here : Here
  pub address : Address
  pub ended : Ended s here address
  pub steps : step_on n s c t ≡ go (list (close here address).level (idle (comma (close here address).sofar t)))
  pub mode_is : AtPlace ≡ mode

-- the innermost level is closed, if the mark is its own
pub record Closes (mode : Mode) (n : ℕ) (s : State) (c : Class) (t : Lexeme) : Type 0 where
  pub level : Level
  pub sofar : AddressList
  pub at : s ≡ list level sofar
  pub steps : step_on n s c t ≡ end_if (is_angle c) level sofar t
  pub mode_is : AfterAddress ≡ mode

-- an address ends, with the typed addresses around it, and the level around them is closed, if the mark is its own
pub record EndsAndCloses (mode : Mode) (n : ℕ) (s : State) (c : Class) (t : Lexeme) : Type 0 where
  pub here : Here
  pub address : Address
  pub ended : Ended s here address
  pub steps : step_on n s c t ≡ end_if (is_angle c) (close here address).level (close here address).sofar t
  pub mode_is : AfterAddress ≡ mode

-- any act
abbrev pub Does : Act → Mode → ℕ → State → Class → Lexeme → Type 0
Does Refuse mode n s c t = step_on n s c t ≡ stop unfit
Does Begin mode n s c t = Begins mode n s c t
Does Add mode n s c t = Adds mode n s c t
Does Pass mode n s c t = Passes mode n s c t
Does Open mode n s c t = Opens mode n s c t
Does OpenNamed mode n s c t = OpensNamed mode n s c t
Does TurnTyped mode n s c t = TurnsTyped mode n s c t
Does EndAtComma mode n s c t = EndsAtComma mode n s c t
Does Close mode n s c t = Closes mode n s c t
Does EndAndClose mode n s c t = EndsAndCloses mode n s c t

-- .. with the next mode
abbrev pub DoesSo : Action → ℕ → State → Class → Lexeme → Type 0
DoesSo a n s c t = Does a.act a.next n s c t

-- ---- the machine does so

fresh_some : (h : Here) (b : Began) → fresh h ≡ some b → h ≡ in_list (in_group b.here none b.colon) empty
fresh_some (in_list top empty) b e = let z : ◌≡◌ {A = ℕ} 0 1 = cc in absurd (omega arith)
fresh_some (in_list (in_angle h o t) empty) b e = let z : ◌≡◌ {A = ℕ} 0 1 = cc in absurd (omega arith)
fresh_some (in_list (in_group h none t) empty) b e = let f : record { here = h; colon = t } ≡ b = cc in cc
fresh_some (in_list (in_group h (some p) t) empty) b e = let z : ◌≡◌ {A = ℕ} 0 1 = cc in absurd (omega arith)
fresh_some (in_list k (comma l t)) b e = let z : ◌≡◌ {A = ℕ} 0 1 = cc in absurd (omega arith)
fresh_some (in_typed h t a u) b e = let z : ◌≡◌ {A = ℕ} 0 1 = cc in absurd (omega arith)

place_row_lem : (o : Option Began) → row_of (place_mode o) ≡ place_row (atom_mode o)
place_row_lem none = refl
place_row_lem (some b) = refl

-- ":" after one atom
abbrev colon_of : Option Began → Action
colon_of none = OpenNamed then AtPlace
colon_of (some b) = TurnTyped then Wanting

atom_row : (o : Option Began) → row_of (atom_mode o) ≡ words_row (colon_of o)
atom_row none = refl
atom_row (some b) = refl

module _ (n : ℕ) (t : Lexeme) where
  at_place_lem : (k : Level) (r : Slot) (o : Option Began) → fresh (in_list k r) ≡ o → (c : Class) → DoesSo (on_class (place_row (atom_mode o)) c) n (list k (idle r)) c t
  at_place_lem k r o e Atom = record { here = in_list k r; word = atom_word t; at = refl; is = atom_is; steps = refl; mode_is = ap atom_mode e }
  at_place_lem k r o e Quoted = record { here = in_list k r; word = quoted_word t; at = refl; is = quoted_is; steps = refl; mode_is = refl }
  at_place_lem k r o e At = refl
  at_place_lem k r o e LessThan = record { here = in_list k r; at = refl; steps = refl; mode_is = refl }
  at_place_lem k r o e GreaterThan = record { level = k; sofar = idle r; at = refl; steps = refl; mode_is = refl }
  at_place_lem k r o e Comma = record { after = list k (idle (comma (idle r) t)); keeps = to_place; steps = refl; mode_is = refl }
  at_place_lem k r o e Semicolon = record { level = k; sofar = idle r; at = refl; steps = refl; mode_is = refl }
  at_place_lem k r o e Colon = record { here = in_list k r; at = refl; steps = refl; mode_is = refl }
  at_place_lem k r o e Stray = refl
  at_place_lem k r o e Dot = refl
  at_place_lem k r o e Literal = refl

  -- words that are no address yet
  at_words_lem : (h : Here) (p : Phrase) (colon : Action) → complete (phrase h p) ≡ none → DoesSo colon n (phrase h p) Colon t → (c : Class) → DoesSo (on_class (words_row colon) c) n (phrase h p) c t
  at_words_lem h p colon e d Atom = record { here = h; sofar = p; word = atom_word t; at = refl; is = atom_is; steps = refl; mode_is = refl }
  at_words_lem h p colon e d Quoted = record { here = h; sofar = p; word = quoted_word t; at = refl; is = quoted_is; steps = refl; mode_is = refl }
  at_words_lem h p colon e d At = record { after = first_at h p t; keeps = to_at; steps = refl; mode_is = refl }
  at_words_lem h p colon e d LessThan = record { here = h; name = p; at = refl; steps = refl; mode_is = refl }
  at_words_lem h p colon e d GreaterThan = ap (λ o. on_greater_than o t) e
  at_words_lem h p colon e d Comma = ap (λ o. on_comma o t) e
  at_words_lem h p colon e d Semicolon = ap (λ o. on_semicolon o t) e
  at_words_lem h p colon e d Colon = d
  at_words_lem h p colon e d Stray = refl
  at_words_lem h p colon e d Dot = refl
  at_words_lem h p colon e d Literal = refl

  at_colon : (h : Here) (a : Lexeme) (o : Option Began) → fresh h ≡ o → DoesSo (colon_of o) n (phrase h (one (atom_word a))) Colon t
  at_colon h a none e = record { here = h; name = one (atom_word a); at = refl; steps = ap (phrase_colon n h (one (atom_word a)) t) e; mode_is = refl }
  at_colon h a (some b) e = record { here = b.here; colon = b.colon; atom = a; at = ap (λ g. phrase g (one (atom_word a))) (fresh_some h b e); steps = ap (phrase_colon n h (one (atom_word a)) t) e; mode_is = refl }

  -- in each mode the machine does what the table says
  pub does : (s : State) (c : Class) → DoesSo (action_of (mode_of s) c) n s c t
  does (list k (idle r)) c = rw (place_row_lem (fresh (in_list k r))) (at_place_lem k r (fresh (in_list k r)) refl c)
  does (list k (full r a)) Atom = refl
  does (list k (full r a)) Quoted = refl
  does (list k (full r a)) At = refl
  does (list k (full r a)) LessThan = refl
  does (list k (full r a)) GreaterThan = record { level = k; sofar = full r a; at = refl; steps = refl; mode_is = refl }
  does (list k (full r a)) Comma = record { after = list k (idle (comma (full r a) t)); keeps = to_place; steps = refl; mode_is = refl }
  does (list k (full r a)) Semicolon = record { level = k; sofar = full r a; at = refl; steps = refl; mode_is = refl }
  does (list k (full r a)) Colon = refl
  does (list k (full r a)) Stray = refl
  does (list k (full r a)) Dot = refl
  does (list k (full r a)) Literal = refl
  does (phrase h (one (atom_word a))) c = rw (atom_row (fresh h)) (at_words_lem h (one (atom_word a)) (colon_of (fresh h)) refl (at_colon h a (fresh h) refl) c)
  does (phrase h (one (quoted_word q))) Atom = record { here = h; sofar = one (quoted_word q); word = atom_word t; at = refl; is = atom_is; steps = refl; mode_is = refl }
  does (phrase h (one (quoted_word q))) Quoted = record { here = h; sofar = one (quoted_word q); word = quoted_word t; at = refl; is = quoted_is; steps = refl; mode_is = refl }
  does (phrase h (one (quoted_word q))) At = record { after = first_at h (one (quoted_word q)) t; keeps = to_at; steps = refl; mode_is = refl }
  does (phrase h (one (quoted_word q))) LessThan = record { here = h; name = one (quoted_word q); at = refl; steps = refl; mode_is = refl }
  does (phrase h (one (quoted_word q))) GreaterThan = record { here = h; address = quoted q; ended = lone; steps = refl; mode_is = refl }
  does (phrase h (one (quoted_word q))) Comma = record { here = h; address = quoted q; ended = lone; steps = refl; mode_is = refl }
  does (phrase h (one (quoted_word q))) Semicolon = record { here = h; address = quoted q; ended = lone; steps = refl; mode_is = refl }
  does (phrase h (one (quoted_word q))) Colon = record { here = h; name = one (quoted_word q); at = refl; steps = refl; mode_is = refl }
  does (phrase h (one (quoted_word q))) Stray = refl
  does (phrase h (one (quoted_word q))) Dot = refl
  does (phrase h (one (quoted_word q))) Literal = refl
  does (phrase h (more p w)) c = at_words_lem h (more p w) (OpenNamed then AtPlace) refl (record { here = h; name = more p w; at = refl; steps = refl; mode_is = refl }) c
  does (first_at h p v) Atom = record { after = node h p (first v (atom_word t)); keeps = to_node Atom atom_is; steps = refl; mode_is = refl }
  does (first_at h p v) Quoted = record { after = node h p (first v (quoted_word t)); keeps = to_node Quoted quoted_is; steps = refl; mode_is = refl }
  does (first_at h p v) At = refl
  does (first_at h p v) LessThan = refl
  does (first_at h p v) GreaterThan = refl
  does (first_at h p v) Comma = refl
  does (first_at h p v) Semicolon = refl
  does (first_at h p v) Colon = refl
  does (first_at h p v) Stray = refl
  does (first_at h p v) Dot = refl
  does (first_at h p v) Literal = refl
  does (next_at h p m v) Atom = record { after = node h p (next m v (atom_word t)); keeps = to_next_node Atom atom_is; steps = refl; mode_is = refl }
  does (next_at h p m v) Quoted = record { after = node h p (next m v (quoted_word t)); keeps = to_next_node Quoted quoted_is; steps = refl; mode_is = refl }
  does (next_at h p m v) At = refl
  does (next_at h p m v) LessThan = refl
  does (next_at h p m v) GreaterThan = refl
  does (next_at h p m v) Comma = refl
  does (next_at h p m v) Semicolon = refl
  does (next_at h p m v) Colon = refl
  does (next_at h p m v) Stray = refl
  does (next_at h p m v) Dot = refl
  does (next_at h p m v) Literal = refl
  does (node h p m) Atom = refl
  does (node h p m) Quoted = refl
  does (node h p m) At = record { after = next_at h p m t; keeps = to_next_at; steps = refl; mode_is = refl }
  does (node h p m) LessThan = refl
  does (node h p m) GreaterThan = record { here = h; address = mailbox p m; ended = boxed; steps = refl; mode_is = refl }
  does (node h p m) Comma = record { here = h; address = mailbox p m; ended = boxed; steps = refl; mode_is = refl }
  does (node h p m) Semicolon = record { here = h; address = mailbox p m; ended = boxed; steps = refl; mode_is = refl }
  does (node h p m) Colon = refl
  does (node h p m) Stray = refl
  does (node h p m) Dot = refl
  does (node h p m) Literal = refl
  does (want h v a u) Atom = record { here = in_typed h v a u; word = atom_word t; at = refl; is = atom_is; steps = refl; mode_is = refl }
  does (want h v a u) Quoted = record { here = in_typed h v a u; word = quoted_word t; at = refl; is = quoted_is; steps = refl; mode_is = refl }
  does (want h v a u) At = refl
  does (want h v a u) LessThan = record { here = in_typed h v a u; at = refl; steps = refl; mode_is = refl }
  does (want h v a u) GreaterThan = refl
  does (want h v a u) Comma = refl
  does (want h v a u) Semicolon = refl
  does (want h v a u) Colon = record { here = in_typed h v a u; at = refl; steps = refl; mode_is = refl }
  does (want h v a u) Stray = refl
  does (want h v a u) Dot = refl
  does (want h v a u) Literal = refl

-- ---- the end

-- a list may end
pub record Finishes (s : State) : Type 0 where
  pub level : Level
  pub sofar : AddressList
  pub at : s ≡ list level sofar

-- .. with an address
pub record EndsAndFinishes (s : State) : Type 0 where
  pub here : Here
  pub address : Address
  pub ended : Ended s here address
  pub is : finish s ≡ whole_of (some (close here address))

-- what the end of the text is
abbrev pub DoesAtEnd : End → State → Type 0
DoesAtEnd TooSoon s = finish s ≡ none
DoesAtEnd OfList s = Finishes s
DoesAtEnd OfAddress s = EndsAndFinishes s

-- at the end, too
pub does_at_end : (s : State) → DoesAtEnd (row_of (mode_of s)).end s
does_at_end (list k (idle r)) = rw (place_row_lem (fresh (in_list k r))) (record { level = k; sofar = idle r; at = refl })
does_at_end (list k (full r a)) = record { level = k; sofar = full r a; at = refl }
does_at_end (phrase h (one (atom_word a))) = rw (atom_row (fresh h)) refl
does_at_end (phrase h (one (quoted_word q))) = record { here = h; address = quoted q; ended = lone; is = refl }
does_at_end (phrase h (more p w)) = refl
does_at_end (first_at h p v) = refl
does_at_end (next_at h p m v) = refl
does_at_end (node h p m) = record { here = h; address = mailbox p m; ended = boxed; is = refl }
does_at_end (want h v a u) = refl
