-- Document 02, CR 9: the table of states and symbol kinds. A state is called a mode here, for the machine of the grammar's laws
-- has states of its own; the kind of a symbol is its class. Nothing here needs to be believed: what is promised of the reader
-- does not mention the table.
use Rattle.std.specs.Prelude.{ℕ, List, [], ◌∷◌}
use Rattle.scanner.specs.declared.Class.{Class}
use Rattle.scanner.specs.declared.Class.TheVariants.{Atom, Quoted, At, LessThan, GreaterThan, Comma, Semicolon, Colon, Stray, Dot, Literal}
use Rattle.engine.specs.declared.actions.Mode.{Mode}
use Rattle.engine.specs.declared.actions.Mode.TheVariants.{AtPlace, AtStart, AtFirstAtom, Wanting, AtAtom, AtQuoted, AtWords, AfterAt, AtNode, AfterAddress}
use Rattle.engine.specs.declared.actions.Act.{Act}
use Rattle.engine.specs.declared.actions.Act.TheVariants.{Refuse, Begin, Add, Pass, Open, OpenNamed, TurnTyped, EndAtComma, Close, EndAndClose}
use Rattle.engine.specs.declared.actions.Action.{Action}
use Rattle.engine.specs.declared.actions.End.{End}
use Rattle.engine.specs.declared.actions.End.TheVariants.{TooSoon, OfList, OfAddress}

infixl 20 ◌then◌
-- what is done, and the next mode
abbrev pub ◌then◌ : Act → Mode → Action
act then next = record { act = act; next = next }

-- the symbol is refused
abbrev pub no : Action
no = Refuse then AtPlace

-- ---- the table

-- a row: atom, quoted-string, "at", "<", ">", ",", ";", ":", any other, the end
pub record Row : Type 0 where
  pub atom : Action
  pub quoted : Action
  pub at : Action
  pub less : Action
  pub greater : Action
  pub comma : Action
  pub semicolon : Action
  pub colon : Action
  pub stray : Action
  pub end : End

-- a phrase may go on: with words, "at", "<", and ":", which does this; and so do a closing mark, "," and the end
abbrev pub phrase_row : Action → Action → Action → End → Row
phrase_row colon close comma end =
    record {
      atom = Add then AtWords;
      quoted = Add then AtWords;
      at = Pass then AfterAt;
      less = OpenNamed then AtPlace;
      greater = close;
      comma = comma;
      semicolon = close;
      colon = colon;
      stray = no;
      end = end;
    }

-- an address may begin, with an atom in this mode; and so do a closing mark, "," and the end
abbrev pub begin_row : Mode → Action → Action → End → Row
begin_row mode close comma end =
    record {
      atom = Begin then mode;
      quoted = Begin then AtQuoted;
      at = no;
      less = Open then AtPlace;
      greater = close;
      comma = comma;
      semicolon = close;
      colon = Open then AtStart;
      stray = no;
      end = end;
    }

-- nothing but marks may follow: "at", a closing mark, "," and the end do this
abbrev pub mark_row : Action → Action → Action → End → Row
mark_row at close comma end =
    record { atom = no; quoted = no; at = at; less = no; greater = close; comma = comma; semicolon = close; colon = no; stray = no; end = end }

-- a place of a list, where an atom begins an address in this mode
abbrev pub place_row : Mode → Row
place_row mode = begin_row mode (Close then AfterAddress) (Pass then AtPlace) OfList

-- words that are no address yet, after which ":" does this
abbrev pub words_row : Action → Row
words_row colon = phrase_row colon no no TooSoon

-- the row of each mode
abbrev pub row_of : Mode → Row
row_of AtPlace = place_row AtAtom
row_of AtStart = place_row AtFirstAtom
row_of AtFirstAtom = words_row (TurnTyped then Wanting)
row_of Wanting = begin_row AtAtom no no TooSoon
row_of AtAtom = words_row (OpenNamed then AtPlace)
row_of AtQuoted = phrase_row (OpenNamed then AtPlace) (EndAndClose then AfterAddress) (EndAtComma then AtPlace) OfAddress
row_of AtWords = words_row (OpenNamed then AtPlace)
row_of AfterAt =
    record {
      atom = Pass then AtNode;
      quoted = Pass then AtNode;
      at = no;
      less = no;
      greater = no;
      comma = no;
      semicolon = no;
      colon = no;
      stray = no;
      end = TooSoon;
    }
row_of AtNode = mark_row (Pass then AfterAt) (EndAndClose then AfterAddress) (EndAtComma then AtPlace) OfAddress
row_of AfterAddress = mark_row no (Close then AfterAddress) (Pass then AtPlace) OfList

-- the column of each class
abbrev pub on_class : Row → Class → Action
on_class r Atom = r.atom
on_class r Quoted = r.quoted
on_class r At = r.at
on_class r LessThan = r.less
on_class r GreaterThan = r.greater
on_class r Comma = r.comma
on_class r Semicolon = r.semicolon
on_class r Colon = r.colon
on_class r Stray = r.stray
on_class r Dot = r.stray
on_class r Literal = r.stray

-- what is done in a mode at a symbol of a class
abbrev pub action_of : Mode → Class → Action
action_of mode c = on_class (row_of mode) c

-- ---- the rows as they are built

-- a dot and a domain literal, which RFC 733 has not, are as any other
abbrev pub cells : Row → List Action
cells r = r.atom ∷ r.quoted ∷ r.at ∷ r.less ∷ r.greater ∷ r.comma ∷ r.semicolon ∷ r.colon ∷ r.stray ∷ r.stray ∷ r.stray ∷ []

-- the number of a mode's row
abbrev pub mode_number : Mode → ℕ
mode_number AtPlace = 0
mode_number AtStart = 1
mode_number AtFirstAtom = 2
mode_number Wanting = 3
mode_number AtAtom = 4
mode_number AtQuoted = 5
mode_number AtWords = 6
mode_number AfterAt = 7
mode_number AtNode = 8
mode_number AfterAddress = 9

-- the modes in order
abbrev pub modes : List Mode
modes = AtPlace ∷ AtStart ∷ AtFirstAtom ∷ Wanting ∷ AtAtom ∷ AtQuoted ∷ AtWords ∷ AfterAt ∷ AtNode ∷ AfterAddress ∷ []

abbrev pub rows : List Mode → List (List Action)
rows [] = []
rows (mode ∷ rest) = cells (row_of mode) ∷ rows rest

-- the columns of the classes
unfoldable pub action_table : List (List Action)
action_table = rows modes

abbrev pub ends : List Mode → List End
ends [] = []
ends (mode ∷ rest) = (row_of mode).end ∷ ends rest

-- the column of the end
abbrev pub end_table : List End
end_table = ends modes
