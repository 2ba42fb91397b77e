-- Laws of environments.
use Rattle.std.specs.Prelude.{◌≡◌, ◌<◌, ℕ, zero, suc, List, [], ◌∷◌, length, fold, Option, Result, Ok, IfSome, false}
use Rattle.tok_lists.specs.declared.token.Token.{Token}
use Rattle.box_tree.specs.Trees.{BoxTree}
use Rattle.ts_base.specs.Agreement.{followed_by}
use Rattle.layered_tables.specs.Environments.{opened, closed}
use Rattle.layered_tables.specs.Values.{HasAll}
use Rattle.env_groups.specs.declared.fault.EnvFault.{EnvFault}
use Rattle.env_groups.specs.declared.group.GroupKind.{GroupKind}
use Rattle.env_groups.specs.declared.meaning.Meaning.{Meaning}
use Rattle.env_groups.specs.Environments.{Environment, Nest, setting, group_opened, group_closed, box_set, box_at, box_replaced}

-- groups are opened and closed, so many
abbrev pub opened_times : ℕ → Nest → Nest
opened_times zero nest = nest
opened_times (suc n) nest = let inner = opened_times n nest in record inner { environments = opened inner.environments }

abbrev pub closed_times : ℕ → Nest → Nest
closed_times zero nest = nest
closed_times (suc n) nest = closed_times n (record nest { environments = closed nest.environments })

-- changes of the innermost environment, one after the other
abbrev pub changed : List (ℕ → Environment → Environment) → Nest → Nest
changed changes nest = fold (λ nest change. setting false change nest) nest changes

-- What is set in a group goes with it: whatever is changed in it, when it is closed all is as it was when it was opened.
abbrev pub WhatIsLocalGoes : Type 0
WhatIsLocalGoes = (kind : GroupKind) (changes : List (ℕ → Environment → Environment)) (nest inner : Nest)
    → group_opened nest kind ≡ Ok inner → group_closed (changed changes inner) kind ≡ Ok nest

-- What a call that may refuse makes of the present environments, whatever groups are closed after it, is looked up there.
abbrev pub Stays : {X : Type 0} → Nest → Result Nest EnvFault → (Nest → X) → X → Type 0
Stays nest call look value = (n : ℕ) (after : Nest) → call ≡ Ok after → n < length nest.environments → look (closed_times n after) ≡ value

-- a box is set in a group, and any number of groups further in it is replaced
abbrev pub replaced_inside : ℕ → ℕ → Option BoxTree → Option BoxTree → Nest → Result Nest EnvFault
replaced_inside groups n first value nest =
    followed_by (box_set (opened_times 1 nest) n first false) (λ inner. box_replaced (opened_times groups inner) n value)

-- A box that is replaced is so in the group in which it was set, and after that group nothing of it is left.
abbrev pub WhatIsReplacedStays : Type 0
WhatIsReplacedStays = (groups n : ℕ) (first value : Option BoxTree) (e : Environment) (es : List Environment) (nest after : Nest)
    → nest.environments ≡ e ∷ es → replaced_inside groups n first value nest ≡ Ok after
    → (box_at (closed_times groups after) n ≡ Ok value) × (closed_times (suc groups) after ≡ nest)

-- ---- what all values have

-- The meanings, lists of tokens and boxes of an environment have these properties.
pub record HasValues (M : Meaning → Type 0) (T : List Token → Type 0) (B : BoxTree → Type 0) (e : Environment) : Type 0 where
  pub meanings : HasAll M e.meanings
  pub toks : HasAll T e.toks
  pub boxes : HasAll (λ o. IfSome o B) e.boxes

-- so have those of each environment
abbrev pub HaveValues : (Meaning → Type 0) → (List Token → Type 0) → (BoxTree → Type 0) → List Environment → Type 0
HaveValues M T B [] = Unit {0}
HaveValues M T B (e ∷ es) = HasValues M T B e × HaveValues M T B es
