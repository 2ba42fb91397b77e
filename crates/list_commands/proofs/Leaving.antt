-- What list commands leave is no more than what was there.
use Rattle.std.proofs.Common.{◌≡◌, ◌≤◌, ◌<◌, ℕ, Bool, true, false, Result, Ok, Err, arith}
use Rattle.std.specs.Prelude.{IfOk, if◌then◌else◌}
use Rattle.ts_base.specs.Agreement.{◌>>=◌, with_fault}
use Rattle.box_tree.specs.declared.node.BoxSize.{BoxSize}
use Rattle.env_groups.specs.Environments.{Nest}
use Rattle.env_groups.specs.declared.group.GroupKind.TheVariants.{Box}
use Rattle.mouth.specs.Sizes.{size}
use Rattle.raw_texts.specs.Meanings.{means_category}
use Rattle.scan_syntax.specs.declared.want.Want.{Want}
use Rattle.scan_syntax.specs.declared.want.Want.TheVariants as wants
use Rattle.expander.specs.Worlds.{World, world}
use Rattle.open_lists.specs.declared.plan.BoxContext.{BoxContext}
use Rattle.open_lists.specs.declared.plan.BoxPlan.{BoxPlan}
use Rattle.open_lists.specs.EndCodes.{codes_in}
use Rattle.open_lists.specs.Lists.{OpenLists, hbox_begun, hbox_ended, around}
use Rattle.control_faults.specs.declared.kind.FaultKind.{FaultKind}
use Rattle.control_faults.specs.declared.turn_fault.TurnFault.{TurnFault}
use Rattle.control_faults.specs.TurnFaults.{of_pack}
use Rattle.assignments.specs.declared.grouping.Grouping.{Grouping}
use Rattle.assignments.specs.declared.grouping.Grouping.TheVariants.{Begin, End}
use Rattle.assignments.specs.Worlds.{Outcome, stopped, refused, checked, in_env}
use Rattle.assignments.specs.Reads.{scanned}
use Rattle.assignments.specs.Values.{integer}
use Rattle.assignments.specs.Seeking.{solid_token}
use Rattle.assignments.specs.Commands.{meant}
use Rattle.assignments.specs.Groups.{grouped, group_changed}
use Rattle.list_commands.specs.Boxes.{whole_size, size_read, brace_taken, brace_read, of_open, situated, plan_of, list_begun, hbox_started, list_left, hbox_closed}
use Rattle.list_commands.specs.Characters.{char_at, char_read}

-- ---- steps one after the other

if_bind : {X Y E : Type 0} (a : Result X E) (f : X → Result Y E) (P : X → Type 0) (Q : Y → Type 0) → IfOk a P → ((x : X) → P x → IfOk (f x) Q) → IfOk (a >>= f) Q
if_bind (Ok x) f P Q holds next = next x holds
if_bind (Err e) f P Q holds next = tt

if_weaker : {X E : Type 0} (a : Result X E) (P Q : X → Type 0) → IfOk a P → ((x : X) → P x → Q x) → IfOk a Q
if_weaker (Ok x) P Q holds next = next x holds
if_weaker (Err e) P Q holds next = tt

anyway : {X E : Type 0} (a : Result X E) → IfOk a (λ _. Unit {0})
anyway (Ok x) = tt
anyway (Err e) = tt

checked_leaves : {X Y : Type 0} (test : X → Result Y FaultKind) (t : X × World) → IfOk (checked test t) (λ u. size u.1.at ≤ size t.1.at)
checked_leaves test t = if_bind (with_fault (λ kind. refused kind t.1) (test t.0)) _ (λ _. Unit {0}) _ (anyway (with_fault (λ kind. refused kind t.1) (test t.0))) (λ y _. omega arith)

grouped_leaves : (grouping : Grouping) (w : World) → IfOk (grouped grouping w) (λ v. size v.at ≤ size w.at)
grouped_leaves grouping w = if_bind (with_fault (stopped w) (group_changed w.nest grouping)) _ (λ _. Unit {0}) _ (anyway (with_fault (stopped w) (group_changed w.nest grouping))) (λ nest _. omega arith)

-- ---- what is read

abbrev pub ScansLeave : Type 0
ScansLeave = (want : Want) (w : World) → IfOk (scanned want w) (λ v. size v.1.at ≤ size w.at)

abbrev pub SolidsFall : Type 0
SolidsFall = (w : World) → IfOk (solid_token w) (λ t. size t.1.at < size w.at)

abbrev pub IntegersLeave : Type 0
IntegersLeave = (w : World) → IfOk (integer w) (λ n. size n.1.at ≤ size w.at)

pub char_leaves : IntegersLeave → (w : World) → IfOk (char_read w) (λ c. size c.1.at ≤ size w.at)
unfolding char_read
char_leaves integers w = if_bind (integer w) (checked char_at) (λ n. size n.1.at ≤ size w.at) _ (integers w) (λ n few.
    if_weaker (checked char_at n) (λ c. size c.1.at ≤ size n.1.at) _ (checked_leaves char_at n) (λ c fewer. omega (arith, few, fewer)))

size_leaves : ScansLeave → (w : World) → IfOk (size_read w) (λ s. size s.1.at ≤ size w.at)
unfolding size_read
size_leaves scans w = if_bind (scanned wants.BoxSize w) (checked whole_size) (λ v. size v.1.at ≤ size w.at) _ (scans wants.BoxSize w) (λ v few.
    if_weaker (checked whole_size v) (λ s. size s.1.at ≤ size v.1.at) _ (checked_leaves whole_size v) (λ s fewer. omega (arith, few, fewer)))

taken_leaves : (b : Bool) (w : World) (other : Outcome World) (n : ℕ) → size w.at < n → IfOk other (λ v. size v.at ≤ n) → IfOk (if b then Ok w else other) (λ v. size v.at ≤ n)
taken_leaves true w other n less few = omega (arith, less)
taken_leaves false w other n less few = few

brace_leaves : SolidsFall → (w : World) → IfOk (brace_read w) (λ v. size v.at ≤ size w.at)
unfolding brace_read
brace_leaves solids w = if_bind (solid_token w) brace_taken (λ t. size t.1.at < size w.at) _ (solids w) (λ t less.
    taken_leaves (means_category 1 (meant t.1.nest t.0)) t.1 _ (size w.at) less tt)

-- ---- lists

begun_leaves : (plan : BoxPlan) (lists : OpenLists) (w : World) → IfOk (list_begun plan lists w) (λ r. size r.1.at ≤ size w.at)
begun_leaves plan lists w = if_bind (with_fault (λ fault. stopped w (of_open fault)) (hbox_begun plan lists)) _ (λ _. Unit {0}) _
    (anyway (with_fault (λ fault. stopped w (of_open fault)) (hbox_begun plan lists)))
    (λ more _. if_bind (grouped (Begin Box) w) _ (λ v. size v.at ≤ size w.at) _ (grouped_leaves (Begin Box) w) (λ v few. few))

pub started_leaves : ScansLeave → SolidsFall → (context : BoxContext) (lists : OpenLists) (w : World) → IfOk (hbox_started context lists w) (λ r. size r.1.at ≤ size w.at)
unfolding hbox_started
started_leaves scans solids context lists w = if_bind (size_read w) _ (λ s. size s.1.at ≤ size w.at) _ (size_leaves scans w) (λ s few.
    if_bind (brace_read s.1) _ (λ v. size v.at ≤ size s.1.at) _ (brace_leaves solids s.1) (λ v fewer.
    if_weaker (list_begun (plan_of s.0 context) lists v) (λ r. size r.1.at ≤ size v.at) _ (begun_leaves (plan_of s.0 context) lists v) (λ r least. omega (arith, few, fewer, least))))

pub closed_leaves : (lists : OpenLists) (w : World) → IfOk (hbox_closed lists w) (λ r. size r.1.1.at ≤ size w.at)
unfolding hbox_closed
closed_leaves lists w = if_bind (grouped (End Box) w) _ (λ v. size v.at ≤ size w.at) _ (grouped_leaves (End Box) w) (λ v few.
    if_bind (with_fault (λ fault. stopped v (of_pack fault)) (hbox_ended (codes_in w.nest) lists)) _ (λ _. Unit {0}) _
    (anyway (with_fault (λ fault. stopped v (of_pack fault)) (hbox_ended (codes_in w.nest) lists))) (λ ended _. few))
