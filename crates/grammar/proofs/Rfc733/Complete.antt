-- The machine reads each derivation as itself. Assumes nothing.
use Prim.Native.Nat.{ℕ, ◌+◌, ◌≤◌, ◌<◌}
use native.Mathlib.Omega.{arith}
use mathlib.Core.Path.{◌≡◌, refl, sym, ◌∙◌}
use mathlib.Core.Bool.{Bool, true, false, true≢false}
use mathlib.Core.List.{List, [], ◌∷◌}
use mathlib.Core.Option.{Option, none, some}
use borrow.Author.Tests.{leb-true, leb-false}
use Rattle.grammar.specs.Believed.Language.{too_deep, accepted}
use Rattle.grammar.specs.Executable.Trees733.{Atom, LessThan, Semicolon, Colon, Lexeme, Sym, of, Word, atom_word, quoted_word, Phrase, one, more, Nodes, first, next, Slot, empty, comma, AddressList, idle, full, Address, mailbox, angle, group, quoted, typed}
use Rattle.grammar.proofs.Rfc733.Trees.{word_symbol, phrase_then, name_then, nodes_then, slot_then, list_then, address_then, slot_levels, list_levels, address_levels, slot_lawful, list_lawful, address_lawful, house_rule, DerivedTree}
use Rattle.grammar.proofs.Rfc733.HouseRule.{one_atom, atom_named, atom_group, slot_atom_group, list_atom_group, atom_colon_list}
use Rattle.grammar.specs.Executable.Machines.{go, stop, after}
use Rattle.grammar.specs.Executable.Machine733.{Here, in_list, in_typed, Level, top, in_angle, in_group, State, list, phrase, first_at, next_at, node, want, spot, as_list, levels_here, levels_at, close, complete, within_limit, entered, enter, on_word, Began, nameless, fresh, begun, run, read}

-- ---- where reading comes to after a tree

-- before an address
abbrev pub begin : Here → State
begin (in_list k r) = list k (idle r)
begin (in_typed h t a u) = want h t a u

-- after an address
abbrev pub done_address : Here → Address → State
done_address h (mailbox p m) = node h p m
done_address h (angle o t l u) = as_list (close h (angle o t l u))
done_address h (group o t l u) = as_list (close h (group o t l u))
done_address h (quoted t) = phrase h (one (quoted_word t))
done_address h (typed t a u b) = done_address (in_typed h t a u) b

-- after a list
abbrev pub done_list : Level → AddressList → State
done_list k (idle r) = list k (idle r)
done_list k (full r a) = done_address (in_list k r) a

pub complete_done_address : (h : Here) (a : Address) → complete (done_address h a) ≡ some (close h a)
complete_done_address h (mailbox p m) = refl
complete_done_address h (angle o t l u) = refl
complete_done_address h (group o t l u) = refl
complete_done_address h (quoted t) = refl
complete_done_address h (typed t a u b) = complete_done_address (in_typed h t a u) b

pub complete_done_list : (k : Level) (l : AddressList) → complete (done_list k l) ≡ some (spot k l)
complete_done_list k (idle r) = refl
complete_done_list k (full r a) = complete_done_address (in_list k r) a

-- ---- opening a level

pub enter_within : (n : ℕ) (k : Level) → levels_at k ≤ n → enter n k ≡ go (list k (idle empty))
enter_within n k h = by (within_limit n k) refl
  where
    by : (b : Bool) → within_limit n k ≡ b → entered b k ≡ go (list k (idle empty))
    by true e = refl
    by false e = absurd (omega (arith, leb-false))

pub enter_beyond : (n : ℕ) (k : Level) → n < levels_at k → enter n k ≡ stop too_deep
enter_beyond n k h = by (within_limit n k) refl
  where
    by : (b : Bool) → within_limit n k ≡ b → entered b k ≡ stop too_deep
    by true e = absurd (omega (arith, leb-true))
    by false e = refl

-- ---- each part of a tree is read through

on_word_begin : (h : Here) (w : Word) → on_word (begin h) w ≡ go (phrase h (one w))
on_word_begin (in_list k r) w = refl
on_word_begin (in_typed h t a u) w = refl

pub run_word : (n : ℕ) (s : State) (w : Word) (xs : List Sym) → run n s (word_symbol w ∷ xs) ≡ after (on_word s w) (λ s'. run n s' xs) (word_symbol w ∷ xs)
run_word n s (atom_word t) xs = refl
run_word n s (quoted_word t) xs = refl

pub run_phrase : (n : ℕ) (h : Here) (p : Phrase) (xs : List Sym) → run n (begin h) (phrase_then p xs) ≡ run n (phrase h p) xs
run_phrase n h (one w) xs = run_word n (begin h) w xs ∙ rw on_word_begin
run_phrase n h (more p w) xs = run_phrase n h p _ ∙ run_word n (phrase h p) w xs

pub run_mailbox : (n : ℕ) (h : Here) (p : Phrase) (m : Nodes) (xs : List Sym) → run n (begin h) (phrase_then p (nodes_then m xs)) ≡ run n (node h p m) xs
run_mailbox n h p (first t w) xs = run_phrase n h p _ ∙ run_word n (first_at h p t) w xs
run_mailbox n h p (next m t w) xs = run_mailbox n h p m _ ∙ run_word n (next_at h p m t) w xs

pub run_angle : (n : ℕ) (h : Here) (o : Option Phrase) (t : Lexeme) (xs : List Sym) → levels_here h < n
    → run n (begin h) (name_then o (of LessThan t ∷ xs)) ≡ run n (list (in_angle h o t) (idle empty)) xs
run_angle n (in_list k r) none t xs d = rw (enter_within n (in_angle (in_list k r) none t) d)
run_angle n (in_typed h v a u) none t xs d = rw (enter_within n (in_angle (in_typed h v a u) none t) d)
run_angle n h (some p) t xs d = run_phrase n h p _ ∙ rw (enter_within n (in_angle h (some p) t) d)

-- where a nameless group may just have begun, no atom and ":" follow
abbrev pub Clear : Option Began → Bool → Type 0
Clear none b = Unit {0}
Clear (some k) b = b ≡ false

pub clear_false : (o : Option Began) → Clear o false
clear_false none = tt
clear_false (some k) = refl

pub not_begun : (h : Here) (p : Phrase) → Clear (fresh h) (one_atom p) → begun h p ≡ none
not_begun h (one (atom_word t)) c = by (fresh h) c
  where
    by : (o : Option Began) → Clear o true → o ≡ none
    by none d = refl
    by (some k) d = absurd (true≢false d)
not_begun h (one (quoted_word t)) c = refl
not_begun h (more p w) c = refl

pub run_group : (n : ℕ) (h : Here) (o : Option Phrase) (t : Lexeme) (xs : List Sym) → levels_here h < n → Clear (fresh h) (atom_named o)
    → run n (begin h) (name_then o (of Colon t ∷ xs)) ≡ run n (list (in_group h o t) (idle empty)) xs
run_group n (in_list k r) none t xs d c = rw (enter_within n (in_group (in_list k r) none t) d)
run_group n (in_typed h v a u) none t xs d c = rw (enter_within n (in_group (in_typed h v a u) none t) d)
run_group n h (some p) t xs d c = run_phrase n h p _ ∙ rw (not_begun h p c, enter_within n (in_group h (some p) t) d)

-- the fresh place of a list and of its first address
clear_slot : (k : Level) (r : Slot) (b : Bool) → Clear (nameless k) (slot_atom_group r b) → Clear (nameless k) (slot_atom_group r false)
clear_slot k empty b c = clear_false (nameless k)
clear_slot k (comma l t) b c = c

clear_address : (k : Level) (r : Slot) (b : Bool) → Clear (nameless k) (slot_atom_group r b) → Clear (fresh (in_list k r)) b
clear_address k empty b c = c
clear_address k (comma l t) b c = tt

pub clear_group : (h : Here) (o : Option Phrase) (t : Lexeme) (l : AddressList) (u : Lexeme) → house_rule o (list_then l (of Semicolon u ∷ [])) → Clear (nameless (in_group h o t)) (list_atom_group l)
clear_group h none t l u c = sym (atom_colon_list l (of Semicolon u ∷ []) refl) ∙ c
clear_group h (some p) t l u c = tt

mutual
  pub run_slot : (r : Slot) (n : ℕ) (k : Level) (xs : List Sym) → levels_at k + slot_levels r ≤ n → slot_lawful r → Clear (nameless k) (slot_atom_group r false)
      → run n (list k (idle empty)) (slot_then r xs) ≡ run n (list k (idle r)) xs
  run_slot empty n k xs d o c = refl
  run_slot (comma l t) n k xs d o c = run_list l n k _ d o c ∙ rw (complete_done_list k l)

  pub run_list : (l : AddressList) (n : ℕ) (k : Level) (xs : List Sym) → levels_at k + list_levels l ≤ n → list_lawful l → Clear (nameless k) (list_atom_group l)
      → run n (list k (idle empty)) (list_then l xs) ≡ run n (done_list k l) xs
  run_list (idle r) n k xs d o c = run_slot r n k xs d o c
  run_list (full r a) n k xs d o c =
      run_slot r n k _ (omega arith) o.0 (clear_slot k r (atom_group a) c) ∙ run_address a n (in_list k r) xs (omega arith) o.1 (clear_address k r (atom_group a) c)

  pub run_address : (a : Address) (n : ℕ) (h : Here) (xs : List Sym) → levels_here h + address_levels a ≤ n → address_lawful a → Clear (fresh h) (atom_group a)
      → run n (begin h) (address_then a xs) ≡ run n (done_address h a) xs
  run_address (mailbox p m) n h xs d o c = run_mailbox n h p m xs
  run_address (angle p t l u) n h xs d o c =
      run_angle n h p t _ (omega arith) ∙ run_list l n (in_angle h p t) _ (omega arith) o tt ∙ rw (complete_done_list (in_angle h p t) l)
  run_address (group p t l u) n h xs d o c =
      run_group n h p t _ (omega arith) c ∙ run_list l n (in_group h p t) _ (omega arith) o.0 (clear_group h p t l u o.1) ∙ rw (complete_done_list (in_group h p t) l)
  run_address (quoted t) n h xs d o c = run_phrase n h (one (quoted_word t)) xs
  run_address (typed t x u b) n h xs d o c =
      run_group n h none t (of Atom x ∷ of Colon u ∷ address_then b xs) (omega arith) (clear_false (fresh h))
      ∙ run_address b n (in_typed h t x u) xs (omega arith) o tt

-- what the rules derive is read, as that very derivation
pub complete_read : {n : ℕ} {l : AddressList} {xs : List Sym} → DerivedTree l xs → list_levels l ≤ n → read n xs ≡ accepted l
complete_read {n} {l} {xs} d v = rw (← d.yields, run_list l n top [] (omega arith) d.lawful tt, complete_done_list top l)
