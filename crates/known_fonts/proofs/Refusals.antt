-- What is answered where a call of a layer below refuses.
use Rattle.std.proofs.Common.{◌≡◌, ℕ, Result, Ok, Err, refl}
use Rattle.std.specs.Result.{IsErr, IsErrAnd}
use mathlib.Core.Bool.{false≢true}
use Rattle.ts_base.specs.Agreement.{◌>>=◌, with_fault, AgreesFault, Agrees, CountsFault, Counts, IsUncounted, Uncounted}
use Rattle.ts_base.proofs.Composing.{fault_agrees, first_refuses}
use Rattle.env_groups.specs.declared.fault.EnvFault.{EnvFault}
use Rattle.env_groups.specs.declared.fault.EnvFault.TheVariants as env_faults
use Rattle.env_groups.specs.Environments.{env_cause}
use Rattle.font_store.specs.declared.metric.Metric.{Metric}
use Rattle.font_store.specs.declared.fonts.Font.{Font}
use Rattle.font_store.specs.declared.loading.LoadFault.{LoadFault}
use Rattle.font_store.specs.declared.loading.LoadFault.TheVariants as load_faults
use Rattle.font_store.specs.Loading.{load_cause}
use Rattle.control_faults.specs.declared.turn_fault.TurnFault.{TurnFault}
use Rattle.control_faults.specs.TurnFaults.{read_cause, sink_cause, of_env, of_load}

pub load_comes_so : (e : LoadFault) → read_cause (of_load e) ≡ load_cause e
load_comes_so load_faults.Missing = refl
load_comes_so (load_faults.Bad kind at) = refl
load_comes_so load_faults.ReadFault = refl
load_comes_so load_faults.NoMemory = refl

pub load_unshipped : (e : LoadFault) → IsUncounted (sink_cause (of_load e))
load_unshipped load_faults.Missing = tt
load_unshipped (load_faults.Bad kind at) = tt
load_unshipped load_faults.ReadFault = tt
load_unshipped load_faults.NoMemory = tt

-- A metric isn't loaded, and two steps were to follow.
pub load_refuses : {X Y : Type 0} (view : X → Y) (result : Result X TurnFault) (e : LoadFault) (given : Result Metric LoadFault) (step : Metric → Result Font TurnFault) (more : Font → Result Y TurnFault)
    → IsErr result × IsErrAnd result (λ d. d ≡ of_load e) → AgreesFault (load_cause e) e given
    → Agrees view read_cause result (with_fault of_load given >>= step >>= more)
load_refuses view (Ok x) e given step more exit agrees = absurd (false≢true exit.0)
load_refuses view (Err d) e given step more exit agrees =
    rw (exit.1, load_comes_so e) (first_refuses (load_cause e) (of_load e) (with_fault of_load given >>= step) more
    (first_refuses (load_cause e) (of_load e) (with_fault of_load given) step (fault_agrees (load_cause e) of_load e given agrees)))

pub load_counts : {X : Type 0} (result : Result X TurnFault) (e : LoadFault) (old new : ℕ) → IsErr result × IsErrAnd result (λ d. d ≡ of_load e) → CountsFault (load_cause e) old new → Counts read_cause result old new
load_counts (Ok x) e old new exit counts = absurd (false≢true exit.0)
load_counts (Err d) e old new exit counts = rw (exit.1, load_comes_so e) counts

pub load_unships : {X : Type 0} (result : Result X TurnFault) (e : LoadFault) → IsErr result × IsErrAnd result (λ d. d ≡ of_load e) → Uncounted sink_cause result
load_unships (Ok x) e exit = absurd (false≢true exit.0)
load_unships (Err d) e exit = rw exit.1 (load_unshipped e)

-- ---- the environment

env_comes_so : (e : EnvFault) → read_cause (of_env e) ≡ env_cause e
env_comes_so env_faults.RegisterRange = refl
env_comes_so env_faults.CodeRange = refl
env_comes_so env_faults.FontsFull = refl
env_comes_so env_faults.GroupsFull = refl
env_comes_so env_faults.GroupEnd = refl
env_comes_so env_faults.NoMemory = refl

pub env_refuses : {X Y Z : Type 0} (view : X → Y) (result : Result X TurnFault) (e : EnvFault) (given : Result Z EnvFault) (more : Z → Result Y TurnFault)
    → IsErr result × IsErrAnd result (λ d. d ≡ of_env e) → AgreesFault (env_cause e) e given
    → Agrees view read_cause result (with_fault of_env given >>= more)
env_refuses view (Ok x) e given more exit agrees = absurd (false≢true exit.0)
env_refuses view (Err d) e given more exit agrees =
    rw (exit.1, env_comes_so e) (first_refuses (env_cause e) (of_env e) (with_fault of_env given) more (fault_agrees (env_cause e) of_env e given agrees))

env_uncounted : (e : EnvFault) → IsUncounted (read_cause (of_env e)) × IsUncounted (sink_cause (of_env e))
env_uncounted env_faults.RegisterRange = (tt, tt)
env_uncounted env_faults.CodeRange = (tt, tt)
env_uncounted env_faults.FontsFull = (tt, tt)
env_uncounted env_faults.GroupsFull = (tt, tt)
env_uncounted env_faults.GroupEnd = (tt, tt)
env_uncounted env_faults.NoMemory = (tt, tt)

pub env_quiet : {X : Type 0} (result : Result X TurnFault) (e : EnvFault) → IsErr result × IsErrAnd result (λ d. d ≡ of_env e) → Uncounted read_cause result
env_quiet (Ok x) e exit = absurd (false≢true exit.0)
env_quiet (Err d) e exit = rw exit.1 (env_uncounted e).0

pub env_unships : {X : Type 0} (result : Result X TurnFault) (e : EnvFault) → IsErr result × IsErrAnd result (λ d. d ≡ of_env e) → Uncounted sink_cause result
env_unships (Ok x) e exit = absurd (false≢true exit.0)
env_unships (Err d) e exit = rw exit.1 (env_uncounted e).1
