-- The nodes of a mailbox, one by one. Assumes nothing.
use mathlib.Core.Path.{◌≡◌, refl, sym, ap, ◌∙◌}
use mathlib.Core.Bool.{Bool, true, false}
use mathlib.Core.List.{List, [], ◌∷◌}
use Prim.Native.Nat.{ℕ, ◌≤◌, ◌<◌}
use native.Mathlib.Omega.{arith}
use lib.ListN.{length}
use Rattle.octets.specs.Believed.Numbers.{no_list_goes_on, ends_too_soon}
use Rattle.scanner.specs.declared.Next.{Next}
use Rattle.scanner.specs.Believed.Answers.{found_at}
use Rattle.grammar.specs.Believed.Language.{unfit, unfinished, refused}
use Rattle.grammar.specs.Executable.Trees733.{Class, At, GreaterThan, Comma, Semicolon, Lexeme, Sym, of, one_of, Word, Phrase, Nodes, first, next}
use Rattle.grammar.proofs.Rfc733.Trees.{word_symbol, nodes_then}
use Rattle.grammar.specs.Executable.Machine733.{Here, State, first_at, next_at, node, run, judge}
use Rattle.grammar.proofs.Rfc733.Complete.{run_word}
use Rattle.grammar.proofs.Symbols.{each_other}
use Rattle.grammar.proofs.Rfc733.Readers.{AddressEnds}
use Rattle.grammar.proofs.Rfc733.TreeRecords.{word_lexeme, nodes_end}
use Rattle.addresses.specs.Ties.Steps.{is_word, symbols_from, lexeme_at, symbol_at, symbols_on, symbols_ahead, fault_from, NodesEnd, Stops, NodesContext}
use Rattle.addresses.proofs.NextLaws.{NextIs}
use Rattle.addresses.proofs.PhraseLaws.{word_of, word_symbol_lem, word_lexeme_lem}

-- nodes after which another "at" stands, or the first "at"
pub data OpenNodes : Type 0 where
  first_open : Lexeme → OpenNodes
  next_open : Nodes → Lexeme → OpenNodes

abbrev open_then : OpenNodes → List Sym → List Sym
open_then (first_open t) xs = of At t ∷ xs
open_then (next_open m t) xs = nodes_then m (of At t ∷ xs)

abbrev open_state : Here → Phrase → OpenNodes → State
open_state h p (first_open t) = first_at h p t
open_state h p (next_open m t) = next_at h p m t

abbrev with_node : OpenNodes → Word → Nodes
with_node (first_open t) w = first t w
with_node (next_open m t) w = next m t w

with_node_lem : (o : OpenNodes) (w : Word) (xs : List Sym) → nodes_then (with_node o w) xs ≡ open_then o (word_symbol w ∷ xs)
with_node_lem (first_open t) w xs = refl
with_node_lem (next_open m t) w xs = refl

node_end : (o : OpenNodes) (w : Word) → nodes_end (with_node o w) ≡ (word_lexeme w).end
node_end (first_open t) w = refl
node_end (next_open m t) w = refl

-- the machine takes a node
run_node : (n : ℕ) (h : Here) (p : Phrase) (o : OpenNodes) (w : Word) (xs : List Sym) → run n (open_state h p o) (word_symbol w ∷ xs) ≡ run n (node h p (with_node o w)) xs
run_node n h p (first_open t) w xs = run_word n (first_at h p t) w xs
run_node n h p (next_open m t) w xs = run_word n (next_at h p m t) w xs

-- .. and nothing else there
no_node : (n : ℕ) (h : Here) (p : Phrase) (o : OpenNodes) (class : Class) (t : Lexeme) (xs : List Sym) → is_word class ≡ false → judge (run n (open_state h p o) (of class t ∷ xs)) ≡ refused unfit (of class t ∷ xs)
no_node n h p (first_open u) class t xs e =
    each_other (λ c. judge (run n (open_state h p (first_open u)) (of c t ∷ xs)) ≡ refused unfit (of c t ∷ xs)) is_word (refl, (refl, (refl, (refl, (refl, (refl, (refl, (refl, (refl, tt))))))))) class e
no_node n h p (next_open m u) class t xs e =
    each_other (λ c. judge (run n (open_state h p (next_open m u)) (of c t ∷ xs)) ≡ refused unfit (of c t ∷ xs)) is_word (refl, (refl, (refl, (refl, (refl, (refl, (refl, (refl, (refl, tt))))))))) class e

node_wanted : (n : ℕ) (h : Here) (p : Phrase) (o : OpenNodes) → judge (run n (open_state h p o) []) ≡ refused unfinished []
node_wanted n h p (first_open t) = refl
node_wanted n h p (next_open m t) = refl

-- after a node: "at", or what ends an address
abbrev pub follows_node : Class → Bool
follows_node c = one_of (At ∷ GreaterThan ∷ Comma ∷ Semicolon ∷ []) c

behind_node : (n : ℕ) (h : Here) (p : Phrase) (m : Nodes) (class : Class) (t : Lexeme) (xs : List Sym) → follows_node class ≡ false → judge (run n (node h p m) (of class t ∷ xs)) ≡ refused unfit (of class t ∷ xs)
behind_node n h p m class t xs e =
    each_other (λ c. judge (run n (node h p m) (of c t ∷ xs)) ≡ refused unfit (of c t ∷ xs)) follows_node (refl, (refl, (refl, (refl, (refl, (refl, (refl, tt))))))) class e

-- the next "at" opens again
abbrev again : Nodes → Lexeme → OpenNodes
again m t = next_open m t

module _ (classes text : List ℕ) where
  -- the nodes so far: the machine has come to p, after an "at"
  pub record NodesSoFar (start at : ℕ) (apart : Bool) (p : ℕ) : Type 0 where
    pub open_nodes : OpenNodes
    pub yields : symbol_at classes text At start at apart ∷ symbols_from classes text at ≡ open_then open_nodes (symbols_from classes text p)
    pub comes : (c : NodesContext classes text) → run c.limit (first_at c.here c.phrase (lexeme_at classes text At start at apart)) (symbols_from classes text at) ≡ run c.limit (open_state c.here c.phrase open_nodes) (symbols_from classes text p)
    pub from : at ≤ p
    pub faults : fault_from classes text at ≡ fault_from classes text p

  pub nodes_start : {start at : ℕ} {apart : Bool} → NodesSoFar start at apart at
  nodes_start {start} {at} {apart} = record { open_nodes = first_open (lexeme_at classes text At start at apart); yields = refl; comes = λ c. refl; from = omega arith; faults = refl }

  -- one node more, up to its end
  pub record NodeRead (start at : ℕ) (apart : Bool) (last : ℕ) : Type 0 where
    pub nodes : Nodes
    pub yields : symbol_at classes text At start at apart ∷ symbols_from classes text at ≡ nodes_then nodes (symbols_from classes text last)
    pub comes : (c : NodesContext classes text) → run c.limit (first_at c.here c.phrase (lexeme_at classes text At start at apart)) (symbols_from classes text at) ≡ run c.limit (node c.here c.phrase nodes) (symbols_from classes text last)
    pub end_is : nodes_end nodes ≡ last
    pub from : at < last
    pub within : last ≤ length text
    pub faults : fault_from classes text at ≡ fault_from classes text last

  pub node_read : {start at p a b size : ℕ} {first apart : Bool} {class : Class} → NodesSoFar start at first p → NextIs classes text p (found_at class a b size apart) → is_word class ≡ true → NodeRead start at first b
  node_read {p = p} {a = a} {b = b} {apart = apart} {class = class} w x o =
      let t = lexeme_at classes text class a b apart in
      let word = word_of class t in
      let e : symbols_from classes text p ≡ word_symbol word ∷ symbols_from classes text b = x.same ∙ ap (λ (y : Sym). y ∷ symbols_from classes text b) (sym (word_symbol_lem class t o)) in
      record {
        nodes = with_node w.open_nodes word;
        yields = w.yields ∙ ap (open_then w.open_nodes) e ∙ sym (with_node_lem w.open_nodes word (symbols_from classes text b));
        comes = λ c. w.comes c ∙ ap (run c.limit (open_state c.here c.phrase w.open_nodes)) e ∙ run_node c.limit c.here c.phrase w.open_nodes word (symbols_from classes text b);
        end_is = node_end w.open_nodes word ∙ ap (λ (l : Lexeme). l.end) (word_lexeme_lem class t);
        from = omega (arith, w.from, x.ok.0, x.ok.1.starts);
        within = x.ok.1.within;
        faults = w.faults ∙ x.faults;
      }

  -- another "at"
  pub nodes_again : {start at last a b size : ℕ} {first apart : Bool} → NodeRead start at first last → NextIs classes text last (found_at At a b size apart) → NodesSoFar start at first b
  nodes_again {a = a} {b = b} {apart = apart} w x =
      record {
        open_nodes = next_open w.nodes (lexeme_at classes text At a b apart);
        yields = w.yields ∙ ap (nodes_then w.nodes) x.same;
        comes = λ c. w.comes c ∙ ap (run c.limit (node c.here c.phrase w.nodes)) x.same;
        from = omega (arith, w.from, x.ok.0, x.ok.1.starts);
        faults = w.faults ∙ x.faults;
      }

  -- the end of the address
  pub nodes_end_lem : {start at last : ℕ} {apart : Bool} (ahead : Next) → NodeRead start at apart last → NextIs classes text last ahead → AddressEnds (symbols_ahead classes text ahead) → NodesEnd classes text start at apart ahead last
  nodes_end_lem ahead w x e =
      record { nodes = w.nodes; yields = w.yields ∙ ap (nodes_then w.nodes) x.same; end_is = w.end_is; ends = e; ahead_ok = x.ok; from = w.from; within = w.within }

  -- ---- refusals

  abbrev NodesStop : ℕ → ℕ → Bool → ℕ → ℕ → Type 0
  NodesStop start at apart number-told place =
      Stops classes text (λ (c : NodesContext classes text) why rest. judge (run c.limit (first_at c.here c.phrase (lexeme_at classes text At start at apart)) (symbols_from classes text at)) ≡ refused why rest) number-told place

  pub stops_no_node : {start at p a b size : ℕ} {first apart : Bool} {class : Class} → NodesSoFar start at first p → NextIs classes text p (found_at class a b size apart) → is_word class ≡ false → NodesStop start at first no_list_goes_on a
  stops_no_node {a = a} {b = b} {size = size} {apart = apart} {class = class} w x o =
      record {
        why = unfit;
        rest = symbols_on classes text class a b apart;
        number_is = refl;
        place_is = refl;
        stops = λ c. ap judge (w.comes c ∙ ap (run c.limit (open_state c.here c.phrase w.open_nodes)) x.same)
            ∙ no_node c.limit c.here c.phrase w.open_nodes class (lexeme_at classes text class a b apart) (symbols_from classes text b) o;
      }

  pub stops_node_wanted : {start at p : ℕ} {apart : Bool} → NodesSoFar start at apart p → symbols_from classes text p ≡ [] → NodesStop start at apart ends_too_soon (length text)
  stops_node_wanted w e =
      record {
        why = unfinished;
        rest = [];
        number_is = refl;
        place_is = refl;
        stops = λ c. ap judge (w.comes c ∙ ap (run c.limit (open_state c.here c.phrase w.open_nodes)) e) ∙ node_wanted c.limit c.here c.phrase w.open_nodes;
      }

  pub stops_behind_node : {start at last a b size : ℕ} {first apart : Bool} {class : Class} → NodeRead start at first last → NextIs classes text last (found_at class a b size apart) → follows_node class ≡ false → NodesStop start at first no_list_goes_on a
  stops_behind_node {a = a} {b = b} {size = size} {apart = apart} {class = class} w x o =
      record {
        why = unfit;
        rest = symbols_on classes text class a b apart;
        number_is = refl;
        place_is = refl;
        stops = λ c. ap judge (w.comes c ∙ ap (run c.limit (node c.here c.phrase w.nodes)) x.same)
            ∙ behind_node c.limit c.here c.phrase w.nodes class (lexeme_at classes text class a b apart) (symbols_from classes text b) o;
      }
