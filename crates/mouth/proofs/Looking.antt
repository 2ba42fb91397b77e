-- What the innermost file gives, as what the mouth reads next.
use Rattle.std.proofs.Common.{◌≡◌, ℕ, List, [], ◌∷◌, Result, Ok, refl}
use Rattle.ts_base.specs.Agreement.{◌>>=◌, with_fault, AgreesFault, Cause, Determined, Counted, Free}
use Rattle.tok_lists.specs.declared.spelling.Spelling.{Spelling}
use Rattle.tok_lists.specs.declared.token.Token.{Token}
use Rattle.tok_lists.specs.declared.token.Token.TheVariants as tokens
use Rattle.tok_lists.specs.Codes.{Codes}
use Rattle.tok_lists.specs.Names.{Grew}
use Rattle.tok_lists.proofs.Growing.{all_held_still}
use Rattle.kcat_eyes.specs.declared.fault.EyeFault.{EyeFault}
use Rattle.kcat_eyes.specs.declared.fault.EyeFault.TheVariants as eye_faults
use Rattle.kcat_eyes.specs.declared.seen.Seen.{Seen}
use Rattle.kcat_eyes.specs.declared.seen.Seen.TheVariants as seen
use Rattle.kcat_eyes.specs.Eyes.{FaultAt, at_line}
use Rattle.kcat_eyes.specs.Sights.{IsSeen, eye_cause}
use Rattle.mouth.specs.declared.fault.MouthFault.{MouthFault}
use Rattle.mouth.specs.Reading.{Reading, Stop, of_eyes, mouth_cause, at_place}
use Rattle.mouth.specs.Tokens.{Given, given, in_file, after, looked}
use Rattle.mouth.specs.Keeping.{FileView, IsGiven, AreFilesHeld}

pub eye_causes : (e : EyeFault) → mouth_cause (of_eyes e) ≡ eye_cause e
eye_causes eye_faults.BadChar = refl
eye_causes eye_faults.NamesFull = refl
eye_causes eye_faults.TooManyLines = refl
eye_causes eye_faults.LineTooLong = refl
eye_causes (eye_faults.BadByte place) = refl
eye_causes eye_faults.ReadFault = refl
eye_causes eye_faults.NoMemory = refl

-- What is seen is a token that is held, and no parameter.
seen_token : (names : List Spelling) (token : Token) → IsSeen names (seen.Token token) → IsGiven names (seen.Token token)
seen_token names (tokens.Char code cat) is = (tt, tt)
seen_token names (tokens.Ja cell) is = (tt, tt)
seen_token names (tokens.Name name) is = (is, tt)
seen_token names (tokens.Kept name) is = absurd is
seen_token names (tokens.Param n) is = absurd is

pub seen_given : (names : List Spelling) (s : Seen) → IsSeen names s → IsGiven names s
seen_given names (seen.Token token) is = seen_token names token is
seen_given names seen.End is = tt

pub files_held : (old new : List Spelling) (files : List FileView) → Grew old new → AreFilesHeld old files → AreFilesHeld new files
files_held old new [] grew held = tt
files_held old new (file ∷ files) grew held = (all_held_still old new file.pending grew held.0, files_held old new files grew held.1)

seen_after : Reading → Given → Result (Seen × Reading) (Stop MouthFault)
seen_after r g = Ok (g.seen, after r g)

-- A fault of the eyes is the mouth's at its place.
fault_looks : (cause : Cause) (r : Reading) (n : ℕ) (e : EyeFault) (g : Result Given FaultAt)
    → AgreesFault cause (at_line n e) g
    → AgreesFault cause (at_place (record { file = r.innermost.name; line = n }) (of_eyes e)) (with_fault (in_file r.innermost) g >>= seen_after r)
fault_looks Determined r n e g agrees = rw agrees refl
fault_looks Counted r n e g agrees = tt
fault_looks Free r n e g agrees = tt

-- What the innermost file answered is what the mouth sees.
pub fault_looked : (codes : Codes) (r : Reading) (n : ℕ) (e : EyeFault) → AgreesFault (eye_cause e) (at_line n e) (given codes r.names r.innermost)
    → AgreesFault (mouth_cause (of_eyes e)) (at_place (record { file = r.innermost.name; line = n }) (of_eyes e)) (looked codes r)
unfolding seen_after
fault_looked codes r n e agrees = rw (eye_causes e) (fault_looks (eye_cause e) r n e (given codes r.names r.innermost) agrees)

pub seen_looked : (codes : Codes) (r : Reading) (g : Given) → given codes r.names r.innermost ≡ Ok g → looked codes r ≡ Ok (g.seen, after r g)
seen_looked codes r g is = rw is refl
