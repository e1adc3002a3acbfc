-- Condition 3 for RFC 822: exactly one derivation; the machine's answer is right; no derivation has more than 2 levels, so that 10 never occurs. Assumes nothing.
use Prim.Native.Nat.{ℕ, ◌≤◌}
use mathlib.Core.Path.{◌≡◌, refl}
use mathlib.Core.Bool.{true}
use mathlib.Core.List.{List}
use Rattle.grammar.specs.Believed.Grammar.{Forest, levels}
use Rattle.grammar.specs.Believed.Language.{too_deep, refused, Right}
use Rattle.grammar.specs.Believed.Rfc822.{Nonterminal, list, slot, address, boxes, box_slot, mailbox, route_addr, addr_spec, route, hops, empty_slots, local_part, domain, sub_domain, phrase, word, rules_of, rfc822}
use Rattle.grammar.proofs.Any.Machine as any-machine
use Rattle.grammar.proofs.Any.Arrows as arrows
use Rattle.grammar.proofs.Any.Ranks as ranks
use Rattle.grammar.proofs.Any.Ranks.{ranked}
use Rattle.grammar.specs.Executable.{Decides822}
use Rattle.grammar.proofs.Any.Reader.{decides_by}
use Rattle.grammar.specs.Executable.Trees822.{Class, Sym}
use Rattle.grammar.proofs.Rfc822.Derivations.{DerivedList}
use Rattle.grammar.specs.Executable.Machine822.{step, finish, start, read}
use Rattle.grammar.proofs.Rfc822.Complete.{machine}

-- the levels that a nonterminal has at most
abbrev rank : Nonterminal → ℕ
rank list = 2
rank slot = 2
rank address = 2
rank boxes = 1
rank box_slot = 1
rank mailbox = 1
rank route_addr = 0
rank addr_spec = 0
rank route = 0
rank hops = 0
rank empty_slots = 0
rank local_part = 0
rank domain = 0
rank sub_domain = 0
rank phrase = 0
rank word = 0

all_ranked : (A : Nonterminal) → ranked rank (rank A) (rules_of A) ≡ true
all_ranked list = refl
all_ranked slot = refl
all_ranked address = refl
all_ranked boxes = refl
all_ranked box_slot = refl
all_ranked mailbox = refl
all_ranked route_addr = refl
all_ranked addr_spec = refl
all_ranked route = refl
all_ranked hops = refl
all_ranked empty_slots = refl
all_ranked local_part = refl
all_ranked domain = refl
all_ranked sub_domain = refl
all_ranked phrase = refl
all_ranked word = refl

-- no list has more than 2 levels
pub two_levels : (k : Forest Class Nonterminal) (xs : List Sym) → DerivedList k xs → levels k ≤ 2
two_levels k xs d = ranks.bounded rank rfc822 all_ranked d

-- what is proved of this edition
pub decides : Decides822
decides =
    decides_by rfc822 list 2 read
    (λ limit h xs. arrows.right_bounded DerivedList levels 2 limit h two_levels xs (read limit xs) (any-machine.right DerivedList (λ k. 0) step finish start machine limit xs))
    (any-machine.unique DerivedList (λ k. 0) step finish start machine)

-- 10 never occurs
pub never_ten : (limit : ℕ) → 2 ≤ limit → (xs rest : List Sym) → Right DerivedList levels limit xs (refused too_deep rest) → ⊥
never_ten limit h xs rest r = arrows.never_too_deep DerivedList levels 2 limit h two_levels xs rest r
