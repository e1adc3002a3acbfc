-- An address that begins with a phrase. Assumes nothing.
use mathlib.Core.Path.{◌≡◌, refl, sym, ap, ◌∙◌}
use mathlib.Core.Bool.{Bool, false}
use mathlib.Core.List.{List, ◌∷◌}
use mathlib.Core.Option.{some}
use Prim.Native.Nat.{ℕ}
use Rattle.scanner.specs.declared.Next.{Next}
use Rattle.scanner.specs.Believed.Answers.{found_at}
use Rattle.grammar.specs.Executable.Trees733.{Class, Atom, Quoted, At, LessThan, GreaterThan, Comma, Semicolon, Colon, Stray, Dot, Literal, Lexeme, Sym, Phrase, one}
use Rattle.grammar.proofs.Rfc733.Trees.{phrase_then}
use Rattle.addresses.specs.Ties.Steps.{is_word, is_quoted, follows_phrase, lone_quoted, opening, House, symbols_from, lexeme_at, symbols_on, symbols_ahead, FirstWord, Words, WordsIs, Named, Opening}
use Rattle.records.specs.declared.Span.{Span}
use Rattle.addresses.specs.declared.Enclosure.{Enclosure}
use Rattle.addresses.specs.declared.Enclosure.TheVariants.{Angle, Group}
use Rattle.addresses.proofs.PhraseLaws.{word_of, word_symbol_lem, word_lexeme_lem, word_lone}

-- a symbol after a phrase that is no word and none of the marks of an address
pub no_mark_found : (classes text : List ℕ) (class : Class) → (class ≡ At → ⊥) → (class ≡ LessThan → ⊥) → (class ≡ Colon → ⊥) → is_word class ≡ false → follows_phrase classes text class ≡ false
no_mark_found classes text Atom a l c e = e
no_mark_found classes text Quoted a l c e = e
no_mark_found classes text At a l c e = absurd (a refl)
no_mark_found classes text LessThan a l c e = absurd (l refl)
no_mark_found classes text GreaterThan a l c e = refl
no_mark_found classes text Comma a l c e = refl
no_mark_found classes text Semicolon a l c e = refl
no_mark_found classes text Colon a l c e = absurd (c refl)
no_mark_found classes text Stray a l c e = refl
no_mark_found classes text Dot a l c e = refl
no_mark_found classes text Literal a l c e = refl

module _ (classes text : List ℕ) where
  -- the phrase that begins with a word
  abbrev pub phrase_of : (class : Class) (start end : ℕ) (apart : Bool) {lone : Bool} {r : Words} → WordsIs classes text end lone r → Phrase
  phrase_of class start end apart w = w.grow (one (word_of class (lexeme_at classes text class start end apart)))

  pub named_is : (class : Class) {start end : ℕ} (apart : Bool) {lone : Bool} {r : Words} → FirstWord classes text class start end → (w : WordsIs classes text end lone r)
      → Named classes text (symbols_on classes text class start end apart) record { start = start; end = r.end } (phrase_of class start end apart w) r.ahead
  named_is class {start} {end} apart f w =
      let t = lexeme_at classes text class start end apart in
      let q = one (word_of class t) in
      record {
        yields = ap (λ (x : Sym). x ∷ symbols_from classes text end) (sym (word_symbol_lem class t f.word)) ∙ w.yields q;
        start_is = w.start_is q ∙ ap (λ (l : Lexeme). l.start) (word_lexeme_lem class t);
        end_is = w.end_is q (ap (λ (l : Lexeme). l.end) (word_lexeme_lem class t));
      }

  pub named_lone : (class : Class) (start end : ℕ) (apart : Bool) {lone : Bool} {r : Words} → lone ≡ is_quoted class → (w : WordsIs classes text end lone r) → r.lone ≡ lone_quoted (phrase_of class start end apart w)
  named_lone class start end apart e w = let t = lexeme_at classes text class start end apart in w.lone_is (one (word_of class t)) (e ∙ word_lone class t)

  house_named : (e : Enclosure) (p : Phrase) (ys : List Sym) → House e (some p) ys
  house_named Angle p ys = tt
  house_named Group p ys = tt

  -- a phrase before the mark of an enclosed list is its name
  pub named_opening : (e : Enclosure) {xs : List Sym} {span : Span} {p : Phrase} {a b size : ℕ} {apart : Bool} → Named classes text xs span p (found_at (opening e) a b size apart) → Opening classes text e xs a b span
  named_opening e {p = p} {b = b} {apart = apart} n =
      record { name = some p; apart = apart; yields = n.yields; start_is = sym n.start_is; end_is = sym n.end_is; house = house_named e p (symbols_from classes text b) }

  -- the mark that stands after a phrase
  pub named_before : {xs : List Sym} {span : Span} {p : Phrase} {r s : Next} → Named classes text xs span p r → r ≡ s → Named classes text xs span p s
  named_before {p = p} n e = record { yields = n.yields ∙ ap (λ (a : Next). phrase_then p (symbols_ahead classes text a)) e; start_is = n.start_is; end_is = n.end_is }
