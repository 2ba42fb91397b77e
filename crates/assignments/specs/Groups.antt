-- Groups of braces, and of \begingroup and \endgroup (The TeXbook, chapter 24; TeX: The Program, sections 1063 to 1069).
use Rattle.std.specs.Prelude.{Option, Some, None, Result}
use Rattle.ts_base.specs.Agreement.{with_fault}
use Rattle.tok_lists.specs.declared.token.Token.{Token}
use Rattle.tok_lists.specs.declared.token.Token.TheVariants as tokens
use Rattle.env_groups.specs.declared.prim.PrimitiveName.TheVariants.{BeginGroup, EndGroup}
use Rattle.env_groups.specs.declared.meaning.Meaning.{Meaning}
use Rattle.env_groups.specs.declared.meaning.Meaning.TheVariants as meanings
use Rattle.env_groups.specs.declared.group.GroupKind.TheVariants.{Simple, Semi}
use Rattle.env_groups.specs.Environments.{Nest, group_opened, group_closed}
use Rattle.raw_texts.specs.declared.token.Brace.{Brace}
use Rattle.raw_texts.specs.declared.token.Brace.TheVariants as braces
use Rattle.raw_texts.specs.Kinds.{brace_of}
use Rattle.expander.specs.Worlds.{World}
use Rattle.control_faults.specs.declared.turn_fault.TurnFault.{TurnFault}
use Rattle.control_faults.specs.TurnFaults.{of_env}
use Rattle.assignments.specs.declared.grouping.Grouping.{Grouping}
use Rattle.assignments.specs.declared.grouping.Grouping.TheVariants.{Begin, End}
use Rattle.assignments.specs.Worlds.{Outcome, in_env}

abbrev pub brace_group : Brace → Option Grouping
brace_group braces.Begin = Some (Begin Simple)
brace_group braces.End = Some (End Simple)
brace_group braces.Neither = None

-- what begins or ends a group: a brace, also by \let, \begingroup and \endgroup
abbrev pub grouping_of : Meaning → Option Grouping
grouping_of (meanings.Letter token) = brace_group (brace_of token)
grouping_of (meanings.Primitive BeginGroup) = Some (Begin Semi)
grouping_of (meanings.Primitive EndGroup) = Some (End Semi)
grouping_of _ = None

-- GroupsFull comes where 1000 groups are open, GroupEnd where no group of this kind is innermost.
abbrev pub group_changed : Nest → Grouping → Result Nest TurnFault
group_changed nest (Begin kind) = with_fault of_env (group_opened nest kind)
group_changed nest (End kind) = with_fault of_env (group_closed nest kind)

abbrev pub grouped : Grouping → World → Outcome World
grouped grouping w = in_env w (group_changed w.nest grouping)
