-- Bodies and their plain texts, worked out by hand from document 01 and, of a taken line end, document 02, in one table with one statement over its rows. Assumes nothing.
use Prim.Native.Nat.{ℕ, ◌≤◌, ◌<◌}
use native.Mathlib.Omega.{arith}
use mathlib.Core.Path.{◌≡◌, refl, ap, ◌∙◌}
use mathlib.Core.Bool.{Bool, false}
use mathlib.Core.List.{List, [], ◌∷◌, ◌++◌}
use mathlib.Core.Option.{Option, none, some}
use lib.Dec.{T, leb, leb→le}
use lib.ListN.{length, take, get_or}
use lib.Seq.{take-length}
use Rattle.octets.specs.Believed.Classes.{class_of, class_table}
use Rattle.octets.specs.Believed.Choice.{both}
use Rattle.octets.specs.Believed.Letters.{lower, same, same_bytes}
use Rattle.octets.specs.Believed.Numbers.{message_limit, level_limit}
use Rattle.octets.specs.Believed.Text.{bytes}
use Rattle.octets.specs.declared.answers.Answer.TheVariants.{Accepted, Refused}
use Rattle.octets.proofs.Tables.{is_true, at, both_left, both_right}
use Rattle.octets.specs.Believed.Tests.{every}
use Rattle.octets.proofs.LetterLaws.{same_bytes_lem}
use Rattle.scanner.specs.Believed.Kinds.{kind_of}
use Rattle.scanner.specs.Believed.Characters.{characters_from}
use Rattle.scanner.specs.Believed.Scanning.{Scanned, ended, next, fault_at, taken_data, scan_from, scan, symbols_of, parted}
use Rattle.scanner.proofs.BodyChecks.{in_order}
use Rattle.scanner.specs.Believed.Answers.{unless_fault, fault_of}
use Rattle.grammar.specs.Believed.Language.{Verdict, accepted, refused}
use Rattle.grammar.specs.Believed.Grammar.{levels}
use Rattle.grammar.specs.Believed.Rfc733.{Derivation, DerivedList}
use Rattle.grammar.specs.Executable.Trees733.{Class}
use Rattle.grammar.specs.Executable.Machine733.{answer}
use Rattle.grammar.proofs.Rfc733.Condition3.{answer_derives}
use Rattle.plain.specs.Believed.PlainText.{plain_text}
use Rattle.plain.specs.Believed.RoundTrip.{AcceptedBody}

-- ---- the plain text of a body, if it is accepted

abbrev pub of_verdict : Verdict Class Derivation → Option (List ℕ)
of_verdict (accepted k) = some (plain_text k)
of_verdict (refused why rest) = none

abbrev pub plain_of : List ℕ → Option (List ℕ)
plain_of body = unless_fault (λ number p. none) (scan body 0) (of_verdict (answer level_limit (symbols_of (scan body 0))))

-- ---- the table

-- a body and its plain text
pub record Example : Type 0 where
  pub body : List ℕ
  pub plain : List ℕ

abbrev pub row : List ℕ → List ℕ → Example
row body plain = record { body = body; plain = plain }

-- written as it is
abbrev pub kept : List ℕ → Example
kept body = row body body

-- RFC 733's own
abbrev pub own : List Example
own =
    row (bytes "\":sysmail\"@ Some-Host, Muhammed(I am the greatest)Ali at(the)WBA") (bytes "\":sysmail\" at Some-Host, Muhammed Ali at WBA")
    ∷ row
    (bytes "Gourmets: Pompous Person <WhoZiWhatZit at Cordon-Bleu>,\r\n Cooks: Childs at WGBH, Galloping Gourmet at\r\n ANT (Australian National Television);,\r\n Wine Lovers: Cheapie at Discount-Liquors,\r\n Port at Portugal;;,\r\n Jones at SEA")
    (bytes "Gourmets: Pompous Person <WhoZiWhatZit at Cordon-Bleu>, Cooks: Childs at WGBH, Galloping Gourmet at ANT;, Wine Lovers: Cheapie at Discount-Liquors, Port at Portugal;;, Jones at SEA")
    ∷ row (bytes "George Jones<Group at Host>") (bytes "George Jones <Group at Host>")
    ∷ row
    (bytes " Important folk:\r\n Tom Softwood <Balsa at Another-Host>,\r\n Sam Irving at Other-Host;,\r\n Standard Distribution::Include:\r\n </main/davis/people/standard at Other-Host,\r\n \"<Jones>standard.dist.3\" at Tops-20-Host>,\r\n (The following Included Postal list is part\r\n of Standard Distribution.)\r\n :Postal::Include: Non-net-addrs@Other-host;,\r\n :Postal: \"Sam Irving, P.O. Box 001, Las Vegas,\r\n Nevada\" (So that he can stay\r\n apprised of the situation)")
    (bytes "Important folk: Tom Softwood <Balsa at Another-Host>, Sam Irving at Other-Host;, Standard Distribution: :Include: </main/davis/people/standard at Other-Host, \"<Jones>standard.dist.3\" at Tops-20-Host>, :Postal: :Include: Non-net-addrs at Other-host;, :Postal: \"Sam Irving, P.O. Box 001, Las Vegas, Nevada\"")
    ∷ []

-- lists, mailboxes and angle lists
abbrev pub mailboxes : List Example
mailboxes =
    kept []
    ∷ row (bytes ",, ,") []
    ∷ row (bytes "a@b") (bytes "a at b")
    ∷ row (bytes "Al (x (y)) . Smith\t@X AT  y,,\"z\"") (bytes "Al . Smith at X at y, \"z\"")
    ∷ row (bytes "aa@b@b@b@b") (bytes "aa at b at b at b at b")
    ∷ row (bytes "\"at\"@\"AT\"") (bytes "\"at\" at \"AT\"")
    ∷ row (bytes "<,>,x<>,x y<a@b,,c@d>") (bytes "<>, x <>, x y <a at b, c at d>")
    ∷ []

-- groups and typed addresses
abbrev pub groups : List Example
groups =
    kept (bytes ":;, A B:;, x: a at b, c at d;")
    ∷ row (bytes ":,A:;,B:;;") (bytes ":, A:;, B:;;")
    ∷ kept (bytes ":, A: a at b;;")
    ∷ kept (bytes ": \"A\":;;")
    ∷ kept (bytes ": A B:;;")
    ∷ kept (bytes ": A <>;")
    ∷ kept (bytes ": :A: \"x\";")
    ∷ kept (bytes ": :, A:;;;")
    ∷ row (bytes ",:,,A : a@b, :c: d@e;,x@y ;") (bytes ":, A: a at b, :c: d at e;, x at y;")
    ∷ kept (bytes "n: A: a at b;;")
    ∷ row (bytes ":Include:<a@b>,:POSTAL::x:\"y\"") (bytes ":Include: <a at b>, :POSTAL: :x: \"y\"")
    ∷ []

-- quoted-strings: a fold; a line end that a backslash takes, and one after a taken backslash; CR taken before a fold; CR and LF taken one by one; a bare LF, HTAB, quote and backslash; backslashes that need not stand
abbrev pub strings : List Example
strings =
    row (bytes "\"a\r\n b\"") (bytes "\"a b\"")
    ∷ row (bytes "\"a\\\r\n b\"") (bytes "\"a\\\r\\\n b\"")
    ∷ row (bytes "\"a\\\\\r\n b\"") (bytes "\"a\\\\ b\"")
    ∷ row (bytes "\"a\\\\\\\r\n \"") (bytes "\"a\\\\\\\r\\\n \"")
    ∷ row (bytes "\"a\\\r\r\n b\"") (bytes "\"a\\\r b\"")
    ∷ row (bytes "\"\\\r\n\t\\\r\n\t\"") (bytes "\"\\\r\\\n\t\\\r\\\n\t\"")
    ∷ row (bytes "\"\\\r\nb\"") (bytes "\"\\\r\\\nb\"")
    ∷ row (bytes "\"\\\r\\\n\"") (bytes "\"\\\r\\\n\"")
    ∷ row (bytes "\"\n\t\"") (bytes "\"\\\n\t\"")
    ∷ kept (bytes "\"\\\"\\\\\"")
    ∷ row (bytes "\"\\a\\(\\,\"") (bytes "\"a(,\"")
    ∷ kept (bytes "\"\"")
    ∷ []

abbrev pub table : List Example
table = own ++ (mailboxes ++ (groups ++ strings))

-- ---- the test

abbrev is_text : Option (List ℕ) → List ℕ → Bool
is_text none t = false
is_text (some u) t = same_bytes u t

abbrev right : ℕ → Example → Bool
right i e = both (leb (length e.body) message_limit) (is_text (plain_of e.body) e.plain)

every_right : T (every right 0 table)
unfolding scan_from parted taken_data characters_from symbols_of unless_fault kind_of class_of class_table lower same
every_right = tt

-- ---- what the test says

is_text_lem : (o : Option (List ℕ)) (t : List ℕ) → T (is_text o t) → o ≡ some t
is_text_lem none t h = absurd h
is_text_lem (some u) t h = ap some (same_bytes_lem u t (is_true (same_bytes u t) h))

of_verdict_lem : (v : Verdict Class Derivation) {t : List ℕ} → of_verdict v ≡ some t → (k : Derivation) × (v ≡ accepted k) × (plain_text k ≡ t)
of_verdict_lem (accepted k) e = (k, refl, cc)
of_verdict_lem (refused why rest) e = absurd (let o : ◌≡◌ {A = ℕ} 0 1 = cc in omega arith)

no_fault : (s : Scanned) (o : Option (List ℕ)) {t : List ℕ} → unless_fault (λ number p. none) s o ≡ some t → (fault_of s ≡ Accepted 0) × (o ≡ some t)
unfolding unless_fault
no_fault ended o e = (refl, e)
no_fault (next x rest) o e = no_fault rest o e
no_fault (fault_at number p) o e = absurd (let z : ◌≡◌ {A = ℕ} 0 1 = cc in omega arith)

-- the body is accepted, and the text beside it is the plain text of its derivation
accepted_as : (body : List ℕ) {t : List ℕ} → length body ≤ message_limit → plain_of body ≡ some t → (k : Derivation) × AcceptedBody body 0 (length body) k × (plain_text k ≡ t)
accepted_as body h e =
    let (f, g) = no_fault (scan body 0) (of_verdict (answer level_limit (symbols_of (scan body 0)))) e in
    let (k, v, p) = of_verdict_lem (answer level_limit (symbols_of (scan body 0))) g in
    let (d, n) : DerivedList k (symbols_of (scan body 0)) × (levels k ≤ level_limit) = answer_derives level_limit v in
    let a : AcceptedBody body 0 (length body) k =
    record {
      scans = in_order Refused body 0 (length body) (fault_of (scan (take (length body) body) 0)) h (omega arith) (omega arith) ∙ rw take-length f;
      list = record { derived = rw take-length d; within = n };
    } in
    (k, a, p)

-- each body of the table is accepted, and the text beside it is the plain text of its derivation
pub written : (i : ℕ) → i < length table
    → let e = get_or table i (kept []) in
    (k : Derivation) × AcceptedBody e.body 0 (length e.body) k × (plain_text k ≡ e.plain)
written i h =
    let e = get_or table i (kept []) in
    let t = at right table (kept []) every_right i h in
    accepted_as e.body (leb→le _ _ (both_left (leb (length e.body) message_limit) (is_text (plain_of e.body) e.plain) t))
    (is_text_lem (plain_of e.body) e.plain (both_right (leb (length e.body) message_limit) (is_text (plain_of e.body) e.plain) t))
