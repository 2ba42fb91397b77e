-- The elementary changes of what is read: tokens put in front, units, expansions, conditionals, names, and texts in which
-- no file may end.
use Rattle.std.specs.Prelude.{ℕ, ◌+◌, ◌-◌, ◌==◌, nat_le, if◌then◌else◌, true, List, [], ◌∷◌, ◌++◌, length, take, set, Result, Ok, Err}
use Rattle.ts_base.specs.Agreement.{◌>>=◌, with_fault}
use Rattle.tok_lists.specs.declared.spelling.Spelling.{Spelling}
use Rattle.tok_lists.specs.declared.token.Token.{Token}
use Rattle.tok_lists.specs.Names.{numbered, with_name}
use Rattle.tok_lists.specs.Pending.{put_before, with_arguments}
use Rattle.kcat_eyes.specs.Eyes.{Sight}
use Rattle.mouth.specs.declared.allowed.Allowed.{Allowed}
use Rattle.mouth.specs.declared.allowed.Allowed.TheVariants.{Test}
use Rattle.mouth.specs.declared.fault.MouthFault.{MouthFault}
use Rattle.mouth.specs.declared.fault.MouthFault.TheVariants.{Budget, DepthFull}
use Rattle.mouth.specs.Reading.{Reading, Stop, stop, of_names, of_pending, with_pending, with_files, with_names, with_units, with_begun, with_conditionals, with_inside}

-- ---- tokens

-- a list put in front of what is pending in the innermost file, or TokensFull
abbrev pub with_list : List Token → Reading → Result Reading (Stop MouthFault)
with_list list r =
    with_fault (λ f. stop (of_pending f) r) (put_before list r.innermost.pending)
    >>= λ pending. Ok (with_files r (with_pending r.innermost pending) r.below)

-- a macro's body put in front, with the arguments in the places of its parameters
abbrev pub with_call : List (List Token) → List Token → Reading → Result Reading (Stop MouthFault)
with_call args body r = with_list (with_arguments args body) r

-- the number of a spelling, with the names after it came, or NamesFull
abbrev pub named : Spelling → Reading → Result (ℕ × Reading) (Stop MouthFault)
named spelling r =
    with_fault (λ f. stop (of_names f) r) (numbered r.names spelling) >>= λ n. Ok (n, with_names r (with_name r.names spelling))

-- ---- files

abbrev pub ending_sight : Sight → Sight
ending_sight sight = record { state = sight.state; rest = sight.rest; lines = sight.lines; ends = true }

-- The innermost file ends after its present line, or after its first one where none was taken yet.
abbrev pub ending : Reading → Reading
ending r = with_files r (record { name = r.innermost.name; sight = ending_sight r.innermost.sight; pending = r.innermost.pending }) r.below

-- ---- units and expansions

-- One unit is spent, or there is none: Budget.
abbrev pub spent : Reading → Result Reading (Stop MouthFault)
spent r = if r.units == 0 then Err (stop Budget r) else Ok (with_units r (r.units - 1))

-- how many expansions may have begun and not ended
abbrev pub most_begun : ℕ
most_begun = 200

-- An expansion begins: its unit is spent first, and then DepthFull comes where so many have begun and not ended.
abbrev pub begun : Reading → Result Reading (Stop MouthFault)
begun r = spent r >>= λ s. if nat_le most_begun s.begun then Err (stop DepthFull s) else Ok (with_begun s (s.begun + 1))

abbrev pub ended : Reading → Reading
ended r = with_begun r (r.begun - 1)

-- ---- conditionals

-- One more conditional is open, whose test is being read. Its number is how many were open.
abbrev pub opened : Reading → Reading
opened r = with_conditionals r (r.conditionals ++ Test ∷ [])

-- what is allowed from now on in the conditional of a number, where there is one
abbrev pub changed : ℕ → Allowed → Reading → Reading
changed number allowed r = with_conditionals r (set r.conditionals number allowed)

-- The innermost conditional is closed, where there is one.
abbrev pub closed : Reading → Reading
closed r = with_conditionals r (take (length r.conditionals - 1) r.conditionals)

-- ---- texts in which no file may end

abbrev pub entered : Reading → Reading
entered r = with_inside r (r.inside + 1)

abbrev pub left : Reading → Reading
left r = with_inside r (r.inside - 1)
