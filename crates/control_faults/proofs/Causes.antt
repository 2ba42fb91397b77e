-- A fault comes of the same cause in main control as in the layer below.
use Rattle.std.proofs.Common.{◌≡◌, refl}
use Rattle.env_groups.specs.declared.fault.EnvFault.{EnvFault}
use Rattle.env_groups.specs.declared.fault.EnvFault.TheVariants as env_faults
use Rattle.env_groups.specs.Environments.{env_cause}
use Rattle.expander.specs.declared.gullet_fault.GulletFault.{GulletFault}
use Rattle.expander.specs.declared.gullet_fault.GulletFault.TheVariants as gullet_faults
use Rattle.expander.specs.GulletFaults.{gullet_cause}
use Rattle.control_faults.specs.TurnFaults.{read_cause, of_gullet, of_env}

pub gullet_comes_so : (fault : GulletFault) → read_cause (of_gullet fault) ≡ gullet_cause fault
gullet_comes_so gullet_faults.Undefined = refl
gullet_comes_so gullet_faults.UseMismatch = refl
gullet_comes_so gullet_faults.ArgParagraph = refl
gullet_comes_so gullet_faults.FileEnded = refl
gullet_comes_so gullet_faults.BadParameter = refl
gullet_comes_so gullet_faults.ExtraCond = refl
gullet_comes_so gullet_faults.CsnameEnd = refl
gullet_comes_so gullet_faults.NoBrace = refl
gullet_comes_so gullet_faults.NoName = refl
gullet_comes_so gullet_faults.FileMissing = refl
gullet_comes_so gullet_faults.InputsFull = refl
gullet_comes_so gullet_faults.TokensFull = refl
gullet_comes_so gullet_faults.NoEnd = refl
gullet_comes_so gullet_faults.DepthFull = refl
gullet_comes_so gullet_faults.Budget = refl
gullet_comes_so gullet_faults.BadChar = refl
gullet_comes_so gullet_faults.NamesFull = refl
gullet_comes_so gullet_faults.TooManyLines = refl
gullet_comes_so gullet_faults.LineTooLong = refl
gullet_comes_so (gullet_faults.BadByte place) = refl
gullet_comes_so gullet_faults.NoNumber = refl
gullet_comes_so gullet_faults.NumberRange = refl
gullet_comes_so gullet_faults.NoUnit = refl
gullet_comes_so gullet_faults.DimenRange = refl
gullet_comes_so gullet_faults.RegisterRange = refl
gullet_comes_so gullet_faults.CodeRange = refl
gullet_comes_so gullet_faults.ReadFault = refl
gullet_comes_so gullet_faults.NoMemory = refl

pub env_comes_so : (fault : EnvFault) → read_cause (of_env fault) ≡ env_cause fault
env_comes_so env_faults.RegisterRange = refl
env_comes_so env_faults.CodeRange = refl
env_comes_so env_faults.FontsFull = refl
env_comes_so env_faults.GroupsFull = refl
env_comes_so env_faults.GroupEnd = refl
env_comes_so env_faults.NoMemory = refl
