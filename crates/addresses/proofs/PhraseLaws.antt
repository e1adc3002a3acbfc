-- A phrase, word by word. Assumes nothing.
use mathlib.Core.Path.{◌≡◌, refl, sym, ap, ◌∙◌}
use mathlib.Core.Bool.{Bool, true, false}
use mathlib.Core.List.{List, ◌∷◌}
use Prim.Native.Nat.{ℕ, ◌≤◌}
use native.Mathlib.Omega.{arith}
use lib.ListN.{length}
use Rattle.octets.specs.Believed.Choice.{pick}
use Rattle.scanner.specs.declared.Next.{Next}
use Rattle.scanner.specs.Believed.Answers.{found_at}
use Rattle.grammar.specs.Believed.Rfc733.{same_class}
use Rattle.grammar.proofs.Symbols.{each_of}
use Rattle.grammar.specs.Executable.Trees733.{Class, Quoted, Lexeme, Sym, of, Word, atom_word, quoted_word, Phrase, one, more}
use Rattle.grammar.proofs.Rfc733.Trees.{word_symbol, phrase_then}
use Rattle.grammar.proofs.Rfc733.TreeRecords.{word_lexeme, phrase_start, phrase_end}
use Rattle.addresses.specs.Ties.Steps.{is_word, is_quoted, lone_quoted, symbols_from, lexeme_at, symbols_ahead, fault_from, NoWord, WordsIs}
use Rattle.addresses.proofs.NextLaws.{NextIs}

-- the word of a class
abbrev pub word_of : Class → Lexeme → Word
word_of c t = pick (same_class Quoted c) (quoted_word t) (atom_word t)

pub word_symbol_lem : (class : Class) (t : Lexeme) → is_word class ≡ true → word_symbol (word_of class t) ≡ of class t
word_symbol_lem class t e = each_of (λ c. word_symbol (word_of c t) ≡ of c t) is_word (refl, (refl, tt)) class e

pub word_lexeme_lem : (class : Class) (t : Lexeme) → word_lexeme (word_of class t) ≡ t
word_lexeme_lem class t = by (same_class Quoted class)
  where
    by : (b : Bool) → word_lexeme (pick b (quoted_word t) (atom_word t)) ≡ t
    by true = refl
    by false = refl

-- the first word
pub word_lone : (class : Class) (t : Lexeme) → is_quoted class ≡ lone_quoted (one (word_of class t))
word_lone class t = by (same_class Quoted class)
  where
    by : (b : Bool) → b ≡ lone_quoted (one (pick b (quoted_word t) (atom_word t)))
    by true = refl
    by false = refl

module _ (classes text : List ℕ) where
  -- the words so far, up to a position
  pub record WordsSoFar (end : ℕ) (first : Bool) (last : ℕ) (lone : Bool) : Type 0 where
    pub grow : Phrase → Phrase
    pub yields : (q : Phrase) → phrase_then q (symbols_from classes text end) ≡ phrase_then (grow q) (symbols_from classes text last)
    pub start_is : (q : Phrase) → phrase_start (grow q) ≡ phrase_start q
    pub end_is : (q : Phrase) → phrase_end q ≡ end → phrase_end (grow q) ≡ last
    pub lone_is : (q : Phrase) → first ≡ lone_quoted q → lone ≡ lone_quoted (grow q)
    pub from : end ≤ last
    pub within : last ≤ length text
    pub faults : fault_from classes text end ≡ fault_from classes text last

  pub words_start : {end : ℕ} {lone : Bool} → end ≤ length text → WordsSoFar end lone end lone
  words_start r =
      record { grow = λ q. q; yields = λ q. refl; start_is = λ q. refl; end_is = λ q e. e; lone_is = λ q e. e; from = omega arith; within = r; faults = refl }

  pub words_more : {other : Class} {end last a b size : ℕ} {first lone apart : Bool} → WordsSoFar end first last lone → NextIs classes text last (found_at other a b size apart) → is_word other ≡ true → WordsSoFar end first b false
  words_more {other} {last = last} {a = a} {b = b} {apart = apart} w x o =
      let t = lexeme_at classes text other a b apart in
      let e : symbols_from classes text last ≡ word_symbol (word_of other t) ∷ symbols_from classes text b = x.same ∙ ap (λ (y : Sym). y ∷ symbols_from classes text b) (sym (word_symbol_lem other t o)) in
      record {
        grow = λ q. more (w.grow q) (word_of other t);
        yields = λ q. w.yields q ∙ ap (phrase_then (w.grow q)) e;
        start_is = w.start_is;
        end_is = λ q f. ap (λ (l : Lexeme). l.end) (word_lexeme_lem other t);
        lone_is = λ q f. refl;
        from = omega (arith, w.from, x.ok.0, x.ok.1.starts);
        within = x.ok.1.within;
        faults = w.faults ∙ x.faults;
      }

  pub words_done : {end last : ℕ} {first lone : Bool} (ahead : Next) → WordsSoFar end first last lone → NextIs classes text last ahead → NoWord classes text (symbols_ahead classes text ahead)
      → WordsIs classes text end first record { ahead = ahead; end = last; lone = lone }
  words_done ahead w x o =
      record {
        grow = w.grow;
        yields = λ q. w.yields q ∙ ap (phrase_then (w.grow q)) x.same;
        start_is = w.start_is;
        end_is = w.end_is;
        lone_is = w.lone_is;
        no_word = o;
        ahead_ok = x.ok;
        from = w.from;
        within = w.within;
      }
