-- The data of quoted-strings change no number, no place, no count and no record: scans that are the same but for data have the same outcome. Assumes nothing.
use Prim.Native.Nat.{ℕ, suc, ◌+◌}
use native.Mathlib.Omega.{arith}
use mathlib.Core.Path.{◌≡◌, refl, ap}
use mathlib.Core.Bool.{Bool}
use mathlib.Core.List.Memᴰ.{head as here}
use mathlib.Core.List.Memᴰ.{tail as there}
use mathlib.Core.List.{List, [], ◌∷◌, ◌++◌, Memᴰ}
use mathlib.Core.Option.{Option, none, some}
use lib.ListN.{take as front}
use Rattle.octets.specs.Believed.Classes.{class_table}
use Rattle.octets.specs.Believed.Numbers.{level_limit}
use Rattle.octets.specs.declared.answers.Answer.TheVariants.{Refused}
use Rattle.scanner.specs.Believed.Scanning.{Scanned, symbols_of}
use Rattle.scanner.specs.Believed.Answers.{body_checked, unless_fault, fault_of}
use Rattle.scanner.proofs.OnlyMeanings.{Taking, scan_by_taking, SameButData, both_end, both_fault, both_next, both_quoted, only_meanings, quoted_as}
use Rattle.grammar.specs.Believed.Grammar.{Item, Makes, Rule, branch, yield, Fits, done, take, apply}
use Rattle.grammar.specs.Believed.Grammar as item
use Rattle.grammar.specs.Believed.Language.{Verdict, accepted, refused, Refusal, start_of}
use Rattle.grammar.specs.Believed.Records.{last_end, meaning_of, name_of, count, record_of, records_from, records}
use Rattle.grammar.specs.Believed.Rfc733.{Nonterminal, list, slot, address, phrase, at_nodes, node, word, rules_of, kind_number, typed_kind, rfc733, Derivation}
use Rattle.grammar.specs.Executable.Machine733.{answer}
use Rattle.grammar.specs.Executable.Trees733.{Class, Atom, Colon, Sym}
use Rattle.grammar.proofs.Rfc733.Condition3.{answer_accepts, answer_derives}
use Rattle.addresses.specs.Believed.Outcome.{Outcome, refusal, decided, outcome}
use Rattle.equality.proofs.Pairs.{Pairwise, no_symbol, one_symbol, KeepsClass}
use Rattle.equality.proofs.Relabels.{AlikeForests, nils, leaves, branches, same_count, alike_yields, alike_names, derived_alike}
use Rattle.equality.proofs.Verdicts.{refused_alike}

-- ---- symbols that are the same but for data

-- they agree in class, start and end, and in the meaning too unless they are quoted-strings
pub data SameSymbol : Sym → Sym → Type 0 where
  itself : (x : Sym) → SameSymbol x x
  quoteds : (start end : ℕ) (t u : List ℕ) (apart : Bool) → SameSymbol (quoted_as start end t apart) (quoted_as start end u apart)

same_class_lem : {x y : Sym} → SameSymbol x y → y.class ≡ x.class
same_class_lem (itself x) = refl
same_class_lem (quoteds start end t u apart) = refl

turned_round : {x y : Sym} → SameSymbol x y → SameSymbol y x
turned_round (itself x) = itself x
turned_round (quoteds start end t u apart) = quoteds start end u t apart

same_keeps : KeepsClass SameSymbol
same_keeps = record { class = same_class_lem; turned = turned_round; itself = itself }

same_start : (p : ℕ) {xs ys : List Sym} → Pairwise SameSymbol xs ys → start_of p ys ≡ start_of p xs
same_start p no_symbol = refl
same_start p (one_symbol (itself x) a) = refl
same_start p (one_symbol (quoteds start end t u apart) a) = refl

same_end : (p : ℕ) {xs ys : List Sym} → Pairwise SameSymbol xs ys → last_end p ys ≡ last_end p xs
same_end p no_symbol = refl
same_end p (one_symbol (itself x) a) = same_end x.lexeme.end a
same_end p (one_symbol (quoteds start end t u apart) a) = same_end end a

-- no atom is a quoted-string
same_atom : {x y : Sym} → SameSymbol x y → x.class ≡ Atom → y.lexeme.meaning ≡ x.lexeme.meaning
same_atom (itself x) e = refl
same_atom (quoteds start end t u apart) e = absurd cc

-- ---- every rule makes records of the same kind: by the meaning of an atom, or whatever the name means

abbrev SameKind : Option Makes → Derivation → Derivation → Type 0
SameKind none parts parts' = Unit {0}
SameKind (some makes) parts parts' = makes.kind (meaning_of (name_of makes.name parts')) ≡ makes.kind (meaning_of (name_of makes.name parts))

abbrev KeepsKind : Rule Class Nonterminal → Type 0
KeepsKind rule = (parts parts' : Derivation) → Fits rfc733 rule.items parts → AlikeForests SameSymbol parts parts' → SameKind rule.makes parts parts'

abbrev AllKeep : List (Rule Class Nonterminal) → Type 0
AllKeep [] = Unit {0}
AllKeep (rule ∷ rules) = KeepsKind rule × AllKeep rules

one_keeps : (rule : Rule Class Nonterminal) (rules : List (Rule Class Nonterminal)) → Memᴰ rule rules → AllKeep rules → KeepsKind rule
one_keeps rule [] m k = elim m [ ]
one_keeps rule (r ∷ rules) (here e) k = rw e k.0
one_keeps rule (r ∷ rules) (there m) k = one_keeps rule rules m k.1

typed_keeps : {items : List (Item Class Nonterminal)} {parts parts' : Derivation} → Fits rfc733 (item.symbol Colon ∷ item.symbol Atom ∷ items) parts → AlikeForests SameSymbol parts parts'
    → meaning_of (name_of (some 1) parts') ≡ meaning_of (name_of (some 1) parts)
typed_keeps (take c (take e f)) (leaves g (leaves h a)) = ap (λ t. t ++ []) (same_atom h e)

all_keep : (A : Nonterminal) → AllKeep (rules_of A)
all_keep list = (λ p q f a. tt, (λ p q f a. tt, tt))
all_keep slot = (λ p q f a. tt, (λ p q f a. tt, tt))
all_keep address = (λ p q f a. refl, (λ p q f a. refl, (λ p q f a. refl, (λ p q f a. refl, (λ p q f a. refl, (λ p q f a. refl, (λ p q f a. ap (λ t. kind_number (typed_kind t)) (typed_keeps f a), tt)))))))
all_keep phrase = (λ p q f a. tt, (λ p q f a. tt, tt))
all_keep at_nodes = (λ p q f a. tt, (λ p q f a. tt, tt))
all_keep node = (λ p q f a. tt, tt)
all_keep word = (λ p q f a. tt, (λ p q f a. tt, tt))

-- ---- so derivations over such symbols have the same records

same_record : (makes : Makes) (depth parent : ℕ) {parts parts' : Derivation} → AlikeForests SameSymbol parts parts' → SameKind (some makes) parts parts' → record_of makes depth parent parts' ≡ record_of makes depth parent parts
same_record makes depth parent {parts} {parts'} a e =
    let y = alike_yields a no_symbol in
    let n = alike_names makes.name a in
    rw (e, same_start 0 y, same_end (start_of 0 (yield parts)) y, same_start (start_of 0 (yield parts)) n, same_end (start_of 0 (yield parts)) n)

same_records : {items : List (Item Class Nonterminal)} {k j : Derivation} → Fits rfc733 items k → AlikeForests SameSymbol k j → (depth parent next : ℕ) → records_from j depth parent next ≡ records_from k depth parent next
same_records done nils depth parent next = refl
same_records (take e f) (leaves h a) depth parent next = same_records f a depth parent next
same_records (apply {A = A} m f l g) (branches rule {parts} {parts'} {forest} {forest'} p a) depth parent next =
    by rule.makes refl (one_keeps rule (rules_of A) m (all_keep A) parts parts' f p) (same_records f p) (same_records g a depth parent)
  where
    by : (o : Option Makes) → rule.makes ≡ o → SameKind o parts parts' → ((d q i : ℕ) → records_from parts' d q i ≡ records_from parts d q i) → ((i : ℕ) → records_from forest' depth parent i ≡ records_from forest depth parent i)
        → records_from (branch rule parts' forest') depth parent next ≡ records_from (branch rule parts forest) depth parent next
    by none e k b c = rw (e, b depth parent next, same_count p, c (next + count parts))
    by (some makes) e k b c = rw (e, same_record makes depth parent p k, b (suc depth) (suc next) (suc next), same_count p, c (suc next + count parts))

-- ---- the verdicts

-- a list is a list again, with as many addresses and the same records
pub accepted_same : (limit : ℕ) {xs ys : List Sym} → Pairwise SameSymbol xs ys → {k : Derivation} → answer limit xs ≡ accepted k → (j : Derivation) × (answer limit ys ≡ accepted j) × (count j ≡ count k) × (records j ≡ records k)
accepted_same limit {xs} a e =
    let (d, within) = answer_derives limit {xs = xs} e in
    let r = derived_alike same_keeps d a in
    (r.again, answer_accepts limit r.derived (omega (arith, r.deep, within)), r.counted, same_records d.fits r.alike 0 0 0)

-- a refusal stays, with its number and its position
pub refused_same : (limit : ℕ) {xs ys : List Sym} → Pairwise SameSymbol xs ys → (why : Refusal) (rest : List Sym) → answer limit xs ≡ refused why rest → (place : List Sym) × (answer limit ys ≡ refused why place) × ((end : ℕ) → start_of end place ≡ start_of end rest)
refused_same limit a why rest e = let (place, t, f) = refused_alike same_keeps limit a why rest e in (place, f, λ end. same_start end t)

-- ---- the scans

pub agreeing : {r s : Scanned} → SameButData r s → Pairwise SameSymbol (symbols_of r) (symbols_of s)
unfolding symbols_of
agreeing both_end = no_symbol
agreeing (both_fault number p) = no_symbol
agreeing (both_next x h) = one_symbol (itself x) (agreeing h)
agreeing (both_quoted start end t u apart h) = one_symbol (quoteds start end t u apart) (agreeing h)

-- the same fault, or what is the same otherwise
same_unless : {A : Type 0} (refuse : ℕ → ℕ → A) {r s : Scanned} → SameButData r s → {a b : A} → a ≡ b → unless_fault refuse r a ≡ unless_fault refuse s b
unfolding unless_fault
same_unless refuse both_end e = e
same_unless refuse (both_fault number p) e = refl
same_unless refuse (both_next x h) e = same_unless refuse h e
same_unless refuse (both_quoted start end t u apart h) e = same_unless refuse h e

pub same_fault : {r s : Scanned} → SameButData r s → fault_of r ≡ fault_of s
same_fault h = same_unless Refused h refl

-- the outcome after the checks 1 and 13, with every byte of the lent table
pub same_decided : {r s : Scanned} → SameButData r s → (end : ℕ) (table : List ℕ) (limit : ℕ)
    → unless_fault (refusal table) r (decided end table (answer limit (symbols_of r))) ≡ unless_fault (refusal table) s (decided end table (answer limit (symbols_of s)))
same_decided {r} {s} h end table limit = same_unless (refusal table) h (by (answer limit (symbols_of r)) refl)
  where
    by : (v : Verdict Class Derivation) → answer limit (symbols_of r) ≡ v → decided end table (answer limit (symbols_of r)) ≡ decided end table (answer limit (symbols_of s))
    by (accepted k) e = let (j, f, n, m) = accepted_same limit (agreeing h) e in rw (e, f, n, m)
    by (refused why rest) e = let (place, f, p) = refused_same limit (agreeing h) why rest e in rw (e, f, p end)

-- ---- the reader

-- its outcome, were this the rule of what a backslash takes
abbrev pub outcome_taking : Taking → List ℕ → ℕ → ℕ → List ℕ → Outcome
outcome_taking rule message start end table =
    let r : Scanned = scan_by_taking rule class_table (front end message) start in
    body_checked (refusal table) message start end (unless_fault (refusal table) r (decided end table (answer level_limit (symbols_of r))))

-- whatever the rule, document 01's too: the same number, position and count, and the same table
pub same_outcome : (rule : Taking) (message : List ℕ) (start end : ℕ) (table : List ℕ) → outcome_taking rule message start end table ≡ outcome message start end table
same_outcome rule message start end table =
    ap (body_checked (refusal table) message start end) (same_decided (only_meanings rule class_table (front end message) start) end table level_limit)
