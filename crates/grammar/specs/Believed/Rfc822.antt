-- CR 11: the address rules of RFC 822, as data beside those of RFC 733.
use Rattle.std.specs.Prelude.{List, [], ◌∷◌}
use Rattle.std.proofs.Math.Option.{some}
use Rattle.scanner.specs.declared.Class.{Class}
use Rattle.scanner.specs.declared.Class.TheVariants.{Atom, Quoted, At, LessThan, GreaterThan, Comma, Semicolon, Colon, Dot, Literal}
use Rattle.grammar.specs.Believed.Grammar.{symbol, nonterminal, Rule, Grammar}
use Rattle.grammar.specs.Believed.Rfc733.{same_class, plain, flat, level, always}
use Rattle.grammar.specs.Believed.Rfc733 as kinds

-- the nonterminals of the rules; `boxes` is a list of mailboxes, `addr_spec` local-part and domain, `hops` the domains of a route
pub data Nonterminal : Type 0 where
  list slot address boxes box_slot mailbox route_addr addr_spec route hops empty_slots local_part domain sub_domain phrase word : Nonterminal

abbrev pub rules_of : Nonterminal → List (Rule Class Nonterminal)
-- as in document 01: a slot, with an address or without, at the start and after each comma
rules_of list = plain (nonterminal slot ∷ nonterminal address ∷ []) ∷ plain (nonterminal slot ∷ []) ∷ []
rules_of slot = plain [] ∷ plain (nonterminal list ∷ symbol Comma ∷ []) ∷ []
-- a mailbox, or a group: a phrase, its name, ":", a list of mailboxes, ";"
rules_of address =
    plain (nonterminal mailbox ∷ [])
    ∷ level (always kinds.group) (some 0) (nonterminal phrase ∷ symbol Colon ∷ nonterminal boxes ∷ symbol Semicolon ∷ [])
    ∷ []
-- slots with a mailbox or without
rules_of boxes = plain (nonterminal box_slot ∷ nonterminal mailbox ∷ []) ∷ plain (nonterminal box_slot ∷ []) ∷ []
rules_of box_slot = plain [] ∷ plain (nonterminal boxes ∷ symbol Comma ∷ []) ∷ []
-- local-part and domain, or a phrase, the name, and route-addr
rules_of mailbox = plain (nonterminal addr_spec ∷ []) ∷ level (always kinds.angle_list) (some 0) (nonterminal phrase ∷ nonterminal route_addr ∷ []) ∷ []
-- "<", a route or none, local-part and domain, ">"
rules_of route_addr =
    plain (symbol LessThan ∷ nonterminal addr_spec ∷ symbol GreaterThan ∷ [])
    ∷ plain (symbol LessThan ∷ nonterminal route ∷ nonterminal addr_spec ∷ symbol GreaterThan ∷ [])
    ∷ []
-- local-part, the name, "@" and domain
rules_of addr_spec = flat (always kinds.mailbox) (some 0) (nonterminal local_part ∷ symbol At ∷ nonterminal domain ∷ []) ∷ []
-- one or more of ("@", domain), with empty slots before, between and after them, and ":"
rules_of route = plain (nonterminal hops ∷ symbol Colon ∷ []) ∷ plain (nonterminal hops ∷ symbol Comma ∷ nonterminal empty_slots ∷ symbol Colon ∷ []) ∷ []
rules_of hops =
    plain (nonterminal empty_slots ∷ symbol At ∷ nonterminal domain ∷ [])
    ∷ plain (nonterminal hops ∷ symbol Comma ∷ nonterminal empty_slots ∷ symbol At ∷ nonterminal domain ∷ [])
    ∷ []
rules_of empty_slots = plain [] ∷ plain (nonterminal empty_slots ∷ symbol Comma ∷ []) ∷ []
-- words parted by dots
rules_of local_part = plain (nonterminal word ∷ []) ∷ plain (nonterminal local_part ∷ symbol Dot ∷ nonterminal word ∷ []) ∷ []
-- atoms or domain literals parted by dots; no quoted-string
rules_of domain = plain (nonterminal sub_domain ∷ []) ∷ plain (nonterminal domain ∷ symbol Dot ∷ nonterminal sub_domain ∷ []) ∷ []
rules_of sub_domain = plain (symbol Atom ∷ []) ∷ plain (symbol Literal ∷ []) ∷ []
-- as in document 01
rules_of phrase = plain (nonterminal word ∷ []) ∷ plain (nonterminal phrase ∷ nonterminal word ∷ []) ∷ []
rules_of word = plain (symbol Atom ∷ []) ∷ plain (symbol Quoted ∷ []) ∷ []

abbrev pub rfc822 : Grammar Class Nonterminal
rfc822 = record { same = same_class; rules = rules_of }
