-- The kinds in code. Nothing here needs to be believed.
use Rattle.grammar.specs.Believed.Rfc733 as rules
use Rattle.grammar.specs.declared.Kind.{Kind}
use Rattle.grammar.specs.declared.Kind.TheVariants.{Mailbox, AngleList, Group, Quoted, Include, Postal, OtherTyped}

-- the code's kinds are those of the definitions
abbrev pub kind_of : Kind → rules.Kind
kind_of Mailbox = rules.mailbox
kind_of AngleList = rules.angle_list
kind_of Group = rules.group
kind_of Quoted = rules.quoted
kind_of Include = rules.include
kind_of Postal = rules.postal
kind_of OtherTyped = rules.other_typed
