-- What the functions below the entry point do.
use Rattle.std.specs.Prelude.{ℕ, suc, ◌+◌, ◌*◌, ◌≤◌, ◌<◌, ◌≡◌, length, Bool, true, false, List, [], ◌∷◌, Option, None, Some, Result, Ok, Err}
use Rattle.std.proofs.lemmas.List.Edits.{sets}
use Rattle.octets.specs.Believed.Numbers.{message_limit, level_limit, opening_limit, store_record_size, too_many_levels}
use Rattle.scanner.specs.Believed.Scanning.{scan, symbols_of}
use Rattle.addresses.specs.Believed.Outcome.{body_read}
use Rattle.grammar.proofs.Rfc733.Readers.{ends_address}
use Rattle.addresses.specs.Ties.Steps.{symbols_from}
use Rattle.octets.specs.Believed.Choice.{pick}
use Rattle.expansion.specs.Believed.Store.{list_in}
use Rattle.plain.specs.declared.places.Place.{Place}
use Rattle.octets.specs.Ties.Writing.{Wrote}
use Rattle.scanner.specs.Ties.Meanings.{meaning_at}
use Rattle.plain.specs.Ties.Walking.{walk_text, symbol_text, after, after_comma}
use Rattle.plain.specs.declared.places.Place.TheVariants.{Start}
use Rattle.expansion.specs.Ties.Walk.{Sym, until_end, inner_after, levels_after, include_next, include_here, after_one, in_typed, sought, Trail, halted, wrote, before, writing, walk, walk_within, walked, named_by}
use Rattle.expansion.specs.Ties.Walk as seek
use Rattle.scanner.specs.declared.Class.{Class}
use Rattle.expansion.specs.declared.levels.Levels.{Levels}
use Rattle.expansion.specs.declared.Stage.{Stage}
use Rattle.expansion.specs.declared.text.Text.{Text}
use Rattle.expansion.specs.declared.Expanded.{Expanded}
use Rattle.expansion.specs.Believed.Outcome.{Outcome, refusal, fitted, AnsweredBy}
use Rattle.expansion.specs.declared.Spot.{Spot}
use Rattle.expansion.specs.declared.Stopped.{Stopped}
use Rattle.octets.specs.Believed.Answers.{fault}
use Rattle.octets.specs.declared.answers.Fault.{Fault}
use Rattle.expansion.specs.declared.text.Held.{Held}
use Rattle.expansion.specs.declared.text.Held.TheVariants.{Single, Angled}

-- what an Include holds, or neither
abbrev pub as_held : List ℕ → List ℕ → Option Held → seek.Held
as_held classes text None = seek.neither
as_held classes text (Some Single) = seek.single
as_held classes text (Some (Angled behind)) = seek.angled (symbols_from classes text behind)

-- levels as bits, the innermost the lowest
abbrev pub bits_of : List Bool → ℕ
bits_of [] = 0
bits_of (true ∷ s) = 2 * bits_of s + 1
bits_of (false ∷ s) = 2 * bits_of s

-- levels in numbers
pub record LevelsAre (levels : Levels) (s : List Bool) : Type 0 where
  pub many_is : levels.many ≡ length s
  pub typed_is : levels.typed ≡ bits_of s

-- what is done to the levels
abbrev pub Follows : Levels → Levels → (List Bool → List Bool) → Type 0
Follows levels after change = (s : List Bool) → LevelsAre levels s → LevelsAre after (change s)

-- whether the innermost is a typed address
abbrev pub InTypedIs : Levels → Bool → Type 0
InTypedIs levels r = (s : List Bool) → LevelsAre levels s → r ≡ in_typed s

-- what is done after a symbol
abbrev pub LevelsAfter : Class → Place → Bool → Levels → Levels → Type 0
LevelsAfter class place colon levels after = Follows levels after (λ s. levels_after class place colon s)

-- symbols after an Include that is skipped
abbrev pub skip_to : Bool → List Sym → List Sym
skip_to inner [] = []
skip_to inner (x ∷ xs) = pick (pick inner false (ends_address x.class)) (x ∷ xs) (skip_to (inner_after x.class inner) xs)

-- the text of the address that starts at a position
abbrev pub address_from : List ℕ → List ℕ → ℕ → List ℕ
address_from classes text at = walk_text Start (until_end (symbols_from classes text at))

-- .. of a text with its classes
abbrev pub address_at : Text → ℕ → List ℕ
address_at text at = address_from text.classes.now text.bytes.now at

-- the symbols of a text with its classes, from a position on
abbrev pub symbols_at : Text → ℕ → List Sym
symbols_at text at = symbols_from text.classes.now text.bytes.now at

-- the record named at a position, if an address starts there
abbrev pub named_if : List ℕ → List ℕ → ℕ → List ℕ → Bool → Option ℕ
named_if classes text at store starts = pick starts (named_by store (symbols_from classes text at)) None

-- ---- an Include

module _ (classes text : List ℕ) where
  -- the atom "Include" and ":" come next, and these symbols after them
  pub record IncludeComes (at behind : ℕ) : Type 0 where
    pub is : include_next (symbols_from classes text at) ≡ true
    pub rest : symbols_from classes text behind ≡ after_one (after_one (symbols_from classes text at))

  -- .. or they do not
  abbrev pub IncludeWordIs : ℕ → Option ℕ → Type 0
  IncludeWordIs at (Some behind) = IncludeComes at behind
  IncludeWordIs at None = include_next (symbols_from classes text at) ≡ false

  -- an Include begins with a symbol of this class at this place, which ends at a position
  pub record IncludeBegins (class : Class) (place : Place) (end behind : ℕ) : Type 0 where
    pub is : include_here class place (symbols_from classes text end) ≡ true
    pub rest : symbols_from classes text behind ≡ after_one (after_one (symbols_from classes text end))

  -- .. or none does
  abbrev pub IncludeIs : Class → Place → ℕ → Option ℕ → Type 0
  IncludeIs class place end (Some behind) = IncludeBegins class place end behind
  IncludeIs class place end None = include_here class place (symbols_from classes text end) ≡ false

  -- where it leads, for any levels that are open so
  abbrev pub OpenedIs : ℕ → Levels → List ℕ → Option ℕ → Type 0
  OpenedIs behind levels store r = (s : List Bool) → LevelsAre levels s → r ≡ pick (in_typed s) None (sought store (symbols_from classes text behind))

-- ---- the walk

-- the position in the body that counts for an Include
abbrev pub place_of : Option Spot → ℕ → ℕ
place_of None start = start
place_of (Some spot) start = spot.position

-- the levels open around a text
abbrev pub levels_around : Option Spot → ℕ
levels_around None = 0
levels_around (Some spot) = spot.depth

-- a spot
abbrev pub spot : ℕ → ℕ → Spot
spot position depth = record { position = position; depth = depth }

-- a stage, as a comma leaves it, with so many openings
abbrev pub joined_stage : Stage → ℕ → Stage
joined_stage stage openings = record { place = after_comma stage.place; openings = openings; written = stage.written }

-- a walk that stops at a stage
abbrev pub stopped_at : Stage → Fault → Stopped
stopped_at stage f = record { fault = f; openings = stage.openings }

module _ (classes text : List ℕ) where
  -- a symbol is written
  pub record WriteOnIs (class : Class) (start end : ℕ) (colon : Bool) (stage : Stage) (out after' : List ℕ) (r : Stage) : Type 0 where
    pub place_is : r.place ≡ after class stage.place colon
    pub openings_is : r.openings ≡ stage.openings
    pub wrote : Wrote (symbol_text class (meaning_at classes text class start end) stage.place colon) out stage.written after' r.written
    pub counted : r.written ≤ stage.written + 2 * length text + 3

-- ---- a record that is opened

-- what is wrong with the list of a record that does not fit
abbrev pub fault_in : List ℕ → ℕ → ℕ → Fault
fault_in list i position = body_read (λ n p. fault n i) (λ k. fault too_many_levels position) list 0 (length list)

-- what follows a walk
abbrev pub Continuation : Type 0
Continuation = Place → ℕ → Trail

module _ (store : List ℕ) where
  -- a walk over symbols, where at most so many openings lie in each other
  abbrev pub walk_symbols : ℕ → Option Spot → Place → List Bool → List Sym → ℕ → Continuation → Trail
  walk_symbols deep around place s xs openings following =
      walk store (λ i p b l u n. walk_within store deep i p b l u n) (place_of around) (levels_around around) writing place s xs openings following

  -- a record is opened, and its list walked
  pub record RecordOpens (i position depth openings : ℕ) : Type 0 where
    pub few : openings < opening_limit
    pub low : depth ≤ level_limit
    pub walks : (deep : ℕ) (place : Place) (following : Continuation)
        → walk_within store (suc deep) i position depth place openings following ≡ walk_symbols deep (Some (spot position depth)) place [] (symbols_of (scan (list_in store i) 0)) (openings + 1) following

  -- .. or it halts, however deep openings may lie in each other
  abbrev pub VerdictIs : ℕ → ℕ → ℕ → ℕ → Result Unit Fault → Type 0
  VerdictIs i position depth openings (Ok done) = RecordOpens i position depth openings
  VerdictIs i position depth openings (Err f) =
      (deep : ℕ) (place : Place) (following : Continuation) → opening_limit ≤ deep + openings → walk_within store deep i position depth place openings following ≡ halted f.number f.position openings

-- ---- the walk

-- from one trail to another a text is put, and it is written
pub record Onward (from to : Continuation → Trail) (out : List ℕ) (n : ℕ) (after' : List ℕ) (m : ℕ) : Type 0 where
  pub put : List ℕ → List ℕ
  pub same : (following : Continuation) → from following ≡ before put (to following)
  pub wrote : Wrote put out n after' m

-- the most that is written of one text within the message limit: twice its length and 3 for each symbol, of which there are no more than bytes
abbrev pub symbol_share : ℕ
symbol_share = 2 * message_limit + 3

-- .. of the whole text
abbrev pub text_share : ℕ
text_share = symbol_share * (message_limit + 1)

-- a walk from a stage to another; `more`: texts that are written beside those of the openings
pub record Goes (trails : ℕ → Continuation → Trail) (more : ℕ) (stage : Stage) (out after' : List ℕ) (r : Stage) : Type 0 where
  pub from : stage.openings ≤ r.openings
  pub few : r.openings ≤ opening_limit
  pub counted : r.written + text_share * stage.openings ≤ stage.written + text_share * (r.openings + more)
  pub onward : (deep : ℕ) → opening_limit ≤ deep + stage.openings → Onward (trails deep) (λ following. following r.place r.openings) out stage.written after' r.written

-- a walk that stops after so many openings
abbrev pub Halts : (ℕ → Continuation → Trail) → ℕ → ℕ → ℕ → ℕ → Type 0
Halts trails before' n p openings = (deep : ℕ) (following : Continuation) → opening_limit ≤ deep + before' → trails deep following ≡ halted n p openings

-- .. or it goes on to its end
abbrev pub WalkedIs : (ℕ → Continuation → Trail) → ℕ → Stage → List ℕ → List ℕ → Result Stage Stopped → Type 0
WalkedIs trails more stage out after' (Ok r) = Goes trails more stage out after' r
WalkedIs trails more stage out after' (Err s) = Halts trails stage.openings s.fault.number s.fault.position s.openings

-- what a record's list is walked with: it stands in the store, and a count holds what may be written
pub record RecordReady (store : List ℕ) (i : ℕ) (stage : Stage) : Type 0 where
  pub inside : i * store_record_size + store_record_size ≤ length store
  pub few : stage.openings ≤ opening_limit
  pub counted : stage.written ≤ text_share * (stage.openings + 1)

-- a record's list is walked in place of an Include
abbrev pub RecordWalked : List ℕ → ℕ → ℕ → ℕ → Stage → List ℕ → List ℕ → Result Stage Stopped → Type 0
RecordWalked store i position depth stage out after' r =
    WalkedIs (λ deep following. walk_within store deep i position depth (after_comma stage.place) stage.openings following) 0 stage out after' r

-- what a text is walked with
pub record WalkReady (around : Option Spot) (stage : Stage) : Type 0 where
  pub low : levels_around around ≤ level_limit
  pub few : stage.openings ≤ opening_limit
  pub counted : stage.written ≤ text_share * stage.openings

-- a text is walked from a position on
abbrev pub TextWalked : List ℕ → List ℕ → List ℕ → ℕ → Option Spot → Stage → List ℕ → List ℕ → Result Stage Stopped → Type 0
TextWalked classes store text start around stage out after' r =
    WalkedIs (λ deep following. walk_symbols store deep around stage.place [] (symbols_from classes text start) stage.openings following) 1 stage out after' r

-- ---- the body

-- what is answered of a trail
abbrev pub trail_outcome : List ℕ → Trail → Outcome
trail_outcome lent (halted n p openings) = refusal lent openings n p
trail_outcome lent (wrote t openings) = fitted lent openings t

module _ (classes store text : List ℕ) (start : ℕ) where
  -- the walk over a body comes to its end, with this text
  pub record BodyWent (out after' : List ℕ) (r : Stage) : Type 0 where
    pub written_text : List ℕ
    pub trail : walked store (symbols_from classes text start) ≡ wrote written_text r.openings
    pub count : r.written ≡ length written_text
    pub stored : after' ≡ sets out 0 written_text

  -- .. or it halts
  abbrev pub BodyWalked : List ℕ → List ℕ → Result Stage Stopped → Type 0
  BodyWalked out after' (Ok r) = BodyWent out after' r
  BodyWalked out after' (Err s) = walked store (symbols_from classes text start) ≡ halted s.fault.number s.fault.position s.openings

  -- a list is expanded
  abbrev pub ListExpanded : List ℕ → List ℕ → Expanded → Type 0
  ListExpanded out after' r = AnsweredBy (trail_outcome out (walked store (symbols_from classes text start))) r after'
