-- Equal cards mean equal addresses. Assumes nothing.
use Prim.Native.Nat.{ℕ, ◌≤◌}
use mathlib.Core.Path.{◌≡◌, refl, sym, ap, ap₂, ◌∙◌}
use mathlib.Core.List.{List}
use borrow.Author.Tests.{le-leb}
use lib.ListN.{length, drop}
use lib.Seq.{take-append_seam}
use Rattle.grammar.specs.Believed.Rfc733.{Derivation}
use Rattle.addresses.specs.Believed.Outcome.{refusal}
use Rattle.addresses.proofs.Judgements.{listed_read, scanned_body}
use Rattle.plain.specs.Believed.Meaning.{Word, atom, quoted_string, Words, no_word, and_word, Addresses, no_address, and_address, Address, address}
use Rattle.plain.specs.Believed.PlainText.{plain_text}
use Rattle.plain.specs.Believed.RoundTrip.{AcceptedBody}
use Rattle.plain.specs.Believed.Written.{written, plain_outcome}
use Rattle.plain.proofs.RoundTrips.{same_text}
use Rattle.equality.specs.Believed.Cards.{SameWord, SameWords, SameList, SameAddress, card, EqualTextsMeanEqualAddresses, EqualCardsMeanEqualAddresses}

-- ---- the same addresses are equal meanings

word_is : (v w : Word) → SameWord v w → v ≡ w
word_is (atom a) (atom b) e = cc
word_is (atom a) (quoted_string b) e = absurd e
word_is (quoted_string a) (atom b) e = absurd e
word_is (quoted_string a) (quoted_string b) e = cc

words_are : (vs ws : Words) → SameWords vs ws → vs ≡ ws
words_are no_word no_word e = refl
words_are no_word (and_word ws w) e = absurd e
words_are (and_word vs v) no_word e = absurd e
words_are (and_word vs v) (and_word ws w) e = ap₂ and_word (words_are vs ws e.0) (word_is v w e.1)

mutual
  pub list_is : (a b : Addresses) → SameList a b → a ≡ b
  list_is no_address no_address e = refl
  list_is no_address (and_address b y) e = absurd e
  list_is (and_address a x) no_address e = absurd e
  list_is (and_address a x) (and_address b y) e = ap₂ and_address (list_is a b e.0) (address_is x y e.1)

  address_is : (x y : Address) → SameAddress x y → x ≡ y
  address_is (address k n m l) (address k' n' m' l') e =
      rw (e.0, words_are n n' e.1, words_are m m' e.2, list_is l l' e.3) refl

word_itself : (w : Word) → SameWord w w
word_itself (atom a) = refl
word_itself (quoted_string a) = refl

words_themselves : (ws : Words) → SameWords ws ws
words_themselves no_word = tt
words_themselves (and_word ws w) = (words_themselves ws, word_itself w)

mutual
  list_itself : (a : Addresses) → SameList a a
  list_itself no_address = tt
  list_itself (and_address a x) = (list_itself a, address_itself x)

  address_itself : (x : Address) → SameAddress x x
  address_itself (address k n m l) = (refl, words_themselves n, words_themselves m, list_itself l)

pub equal_lists : {a b : Addresses} → a ≡ b → SameList a b
equal_lists {a} {b} e = rw e (list_itself b)

-- ---- law 1

pub equal_texts : EqualTextsMeanEqualAddresses
equal_texts message other start end start' end' k j a b = (λ e. equal_lists ((same_text a b).0 e), λ s. (same_text a b).1 (list_is _ _ s))

-- with room enough the card is the plain text
card_is : (lent : List ℕ) {message : List ℕ} {start end : ℕ} {k : Derivation} → AcceptedBody message start end k → length (plain_text k) ≤ length lent → card (plain_outcome message start end lent) ≡ plain_text k
card_is lent {message} {start} {end} {k} a h =
    let b = scanned_body message start end a.scans a.list in
    ap card (listed_read b (refusal lent) (written lent)) ∙ rw (le-leb (length (plain_text k)) (length lent) h) (take-append_seam (plain_text k) (drop (length (plain_text k)) lent))

pub equal_cards : EqualCardsMeanEqualAddresses
equal_cards message other start end start' end' k j a b lent lent' h h' =
    let e = card_is lent a h in
    let e' = card_is lent' b h' in
    let f = equal_texts message other start end start' end' k j a b in
    (λ c. f.0 (sym e ∙ c ∙ e'), λ s. e ∙ f.1 s ∙ sym e')
