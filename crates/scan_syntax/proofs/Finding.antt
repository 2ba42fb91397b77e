-- What scans of all kinds leave, and what they find.
use Rattle.std.proofs.Common.{◌≡◌, ◌∙◌, ◌++◌, ℕ, ℤ, Bool, true, false, List, [], ◌∷◌, Option, Some, None, Result, Ok, Err, refl, subst, ap, length, ◌≤◌, arith}
use Rattle.std.proofs.lemmas.List.{length-append, length-map}
use Rattle.std.specs.Prelude.{if◌then◌else◌, pos, negsuc, nat_lt, not, IfOk}
use Rattle.ts_geometry.specs.declared.glue.Glue.{Glue}
use Rattle.box_tree.specs.declared.node.BoxSize.{BoxSize}
use Rattle.tok_lists.specs.declared.token.Token.{Token}
use Rattle.env_groups.specs.declared.fault.EnvFault.{EnvFault}
use Rattle.env_groups.specs.declared.key.ToksKey.{ToksKey}
use Rattle.env_groups.specs.declared.key.ToksKey.TheVariants as lists
use Rattle.env_groups.specs.Environments.{Nest, toks_at}
use Rattle.ts_outside.specs.Names.{is_file_name}
use Rattle.scan_numbers.specs.declared.fault.ScanKind.{ScanKind}
use Rattle.scan_numbers.specs.declared.fault.ScanKind.TheVariants.{RegisterRange, NoName}
use Rattle.scan_numbers.specs.declared.quantity.HeldGlue.{HeldGlue}
use Rattle.scan_numbers.specs.declared.quantity.Quantity.{Quantity}
use Rattle.scan_numbers.specs.declared.quantity.Quantity.TheVariants as quantities
use Rattle.scan_numbers.specs.declared.start.Start.{Start}
use Rattle.scan_numbers.specs.declared.start.Start.TheVariants as starts
use Rattle.scan_numbers.specs.Contexts.{Context}
use Rattle.scan_numbers.specs.Tokens.{FedToken, start, is_space}
use Rattle.scan_numbers.specs.Amounts.{Amount}
use Rattle.scan_numbers.specs.Answers.{Answer, Got, Needs, Bad, ◌>>=◌}
use Rattle.scan_numbers.specs.Integers.{integer, given, register}
use Rattle.scan_numbers.specs.Keywords.{keyword}
use Rattle.scan_numbers.specs.Dimensions.{dimen, from_quantity, with_sign}
use Rattle.scan_syntax.specs.declared.internal.Listed.{Listed}
use Rattle.scan_syntax.specs.declared.internal.Listed.TheVariants as listeds
use Rattle.scan_syntax.specs.declared.want.Want.{Want}
use Rattle.scan_syntax.specs.declared.want.Want.TheVariants as wants
use Rattle.scan_syntax.specs.declared.want.Value.{Value}
use Rattle.scan_syntax.specs.declared.want.Value.TheVariants as values
use Rattle.scan_syntax.specs.declared.word.Sought.TheVariants as soughts
use Rattle.scan_syntax.specs.Words.{letters_of, word_letters}
use Rattle.scan_syntax.specs.Values.{integer_value, dimen_value, glue_value, keyword_value, file_value, size_value}
use Rattle.scan_syntax.specs.BoxSizes.{size_to, size_spread, if_spread, if_to, box_size}
use Rattle.scan_syntax.specs.Glues.{nothing, whole_glue, if_minus, shrink, if_plus, stretch, quantity_glue, glue_from, glue_signed, glue}
use Rattle.scan_syntax.specs.Internals.{quantity_value, whole_value, toks_from, toks_held, toks_reading, toks_register, toks_start, internal_from, listed_from, internal}
use Rattle.scan_syntax.specs.Relations.{is_equals, equals_taken, equals}
use Rattle.scan_syntax.specs.FileNames.{name_byte, ends_name, byte_before, name_bytes, file_named, file_name}
use Rattle.scan_syntax.specs.Scans.{grammar}
use Rattle.scan_syntax.specs.Laws.{IsHeldIn, IsMeasured}
use Rattle.scan_numbers.specs.Ends.{tokens_of, AreLast}
use Rattle.scan_syntax.specs.Bounds.{IsSize}
use Rattle.scan_numbers.proofs.Leaving.{Gives, All, IsSmall, itself, after, both, either, given_gives, register_gives, integer_gives, keyword_gives}
use Rattle.scan_numbers.proofs.Measuring.{signed_gives, quantity_gives, dimen_gives, register_then}

-- ---- glue

if_minus_gives : (width : ℤ) (a : Amount) (b : Bool) (context : Context) (rest : List FedToken) → Gives All rest (if_minus width a b context rest)
if_minus_gives width a true context rest = both IsSmall All rest (dimen true rest) (whole_glue width a) (dimen_gives true rest) (λ s c left found. (tt, itself left))
if_minus_gives width a false context rest = (tt, itself rest)

shrink_gives : (width : ℤ) (a : Amount) (context : Context) (rest : List FedToken) → Gives All rest (shrink width a context rest)
shrink_gives width a context rest =
    both All All rest (keyword (letters_of soughts.Minus) rest) (if_minus width a) (keyword_gives (letters_of soughts.Minus) rest) (λ b c left found. if_minus_gives width a b c left)

if_plus_gives : (width : ℤ) (b : Bool) (context : Context) (rest : List FedToken) → Gives All rest (if_plus width b context rest)
if_plus_gives width true context rest = both IsSmall All rest (dimen true rest) (shrink width) (dimen_gives true rest) (λ a c left found. shrink_gives width a c left)
if_plus_gives width false context rest = shrink_gives width nothing context rest

stretch_gives : (list : List FedToken) (answer : Answer Amount) → Gives IsSmall list answer → Gives All list (answer >>= stretch)
stretch_gives list answer gives = both IsSmall All list answer stretch gives (λ a c left found.
    both All All left (keyword (letters_of soughts.Plus) left) (if_plus a.size) (keyword_gives (letters_of soughts.Plus) left) (λ b e more there. if_plus_gives a.size b e more))

signed_stretch_gives : (sign : Bool) (list : List FedToken) (answer : Answer Amount) → Gives IsSmall list answer → Gives All list (answer >>= with_sign sign >>= stretch)
signed_stretch_gives sign list answer gives = stretch_gives list (answer >>= with_sign sign) (signed_gives sign list answer gives)

quantity_glue_gives : (sign : Bool) (q : Quantity) (context : Context) (rest : List FedToken) → Gives All rest (quantity_glue sign q context rest)
quantity_glue_gives sign (quantities.Glue g) context rest = (tt, itself rest)
quantity_glue_gives sign (quantities.Dimen d) context rest =
    signed_stretch_gives sign rest (from_quantity false (quantities.Dimen d) context rest) (quantity_gives false (quantities.Dimen d) context rest)
quantity_glue_gives sign (quantities.Integer n) context rest =
    signed_stretch_gives sign rest (from_quantity false (quantities.Integer n) context rest) (quantity_gives false (quantities.Integer n) context rest)

width_gives : (sign : Bool) (list : List FedToken) → Gives All list (dimen false list >>= with_sign sign >>= stretch)
width_gives sign list = signed_stretch_gives sign list (dimen false list) (dimen_gives false list)

glue_from_gives : (s : Start) (sign : Bool) (x : FedToken) (rest : List FedToken) (same turned : Answer Glue) → Gives All rest same → Gives All rest turned
    → Gives All (x ∷ rest) (glue_from s sign x rest same turned)
glue_from_gives starts.Space sign x rest same turned is_same is_turned = after All x rest same is_same
glue_from_gives starts.Plus sign x rest same turned is_same is_turned = after All x rest same is_same
glue_from_gives starts.Minus sign x rest same turned is_same is_turned = after All x rest turned is_turned
glue_from_gives (starts.Internal q) sign x rest same turned is_same is_turned = after All x rest (quantity_glue sign q x.context rest) (quantity_glue_gives sign q x.context rest)
glue_from_gives (starts.Register r) sign x rest same turned is_same is_turned = register_then All x rest r (quantity_glue sign) (quantity_glue_gives sign)
glue_from_gives starts.Digit sign x rest same turned is_same is_turned = width_gives sign (x ∷ rest)
glue_from_gives starts.Octal sign x rest same turned is_same is_turned = width_gives sign (x ∷ rest)
glue_from_gives starts.Hexadecimal sign x rest same turned is_same is_turned = width_gives sign (x ∷ rest)
glue_from_gives starts.Backquote sign x rest same turned is_same is_turned = width_gives sign (x ∷ rest)
glue_from_gives starts.Point sign x rest same turned is_same is_turned = width_gives sign (x ∷ rest)
glue_from_gives (starts.Refused kind) sign x rest same turned is_same is_turned = width_gives sign (x ∷ rest)
glue_from_gives starts.Other sign x rest same turned is_same is_turned = width_gives sign (x ∷ rest)

glue_gives : (sign : Bool) (list : List FedToken) → Gives All list (glue_signed sign list)
unfolding glue_signed
glue_gives sign [] = tt
glue_gives sign (x ∷ rest) =
    glue_from_gives (start x.token x.context) sign x rest (glue_signed sign rest) (glue_signed (not sign) rest) (glue_gives sign rest) (glue_gives (not sign) rest)

-- ---- sizes of boxes

abbrev IsSizeFound : BoxSize → Context → Type 0
IsSizeFound size context = IsSize size

if_spread_gives : (b : Bool) (context : Context) (rest : List FedToken) → Gives IsSizeFound rest (if_spread b context rest)
if_spread_gives true context rest = both IsSmall IsSizeFound rest (dimen false rest) size_spread (dimen_gives false rest) (λ d c left small. (small, itself left))
if_spread_gives false context rest = (tt, itself rest)

if_to_gives : (b : Bool) (context : Context) (rest : List FedToken) → Gives IsSizeFound rest (if_to b context rest)
if_to_gives true context rest = both IsSmall IsSizeFound rest (dimen false rest) size_to (dimen_gives false rest) (λ d c left small. (small, itself left))
if_to_gives false context rest =
    both All IsSizeFound rest (keyword (letters_of soughts.Spread) rest) if_spread (keyword_gives (letters_of soughts.Spread) rest) (λ b c left found. if_spread_gives b c left)

box_size_gives : (list : List FedToken) → Gives IsSizeFound list (box_size list)
unfolding box_size
box_size_gives list = both All IsSizeFound list (keyword (letters_of soughts.To) list) if_to (keyword_gives (letters_of soughts.To) list) (λ b c left found. if_to_gives b c left)

-- ---- internal quantities

abbrev IsHeldFound : Value → Context → Type 0
IsHeldFound value context = IsHeldIn context.env value

quantity_held : (q : Quantity) (nest : Nest) → IsHeldIn nest (quantity_value q)
quantity_held (quantities.Integer n) nest = tt
quantity_held (quantities.Dimen d) nest = tt
quantity_held (quantities.Glue g) nest = tt

from_held : (key : ToksKey) (nest : Nest) (held : Result (List Token) EnvFault) → toks_at nest key ≡ held → (value : Value) → toks_from held ≡ Ok value → IsHeldIn nest value
from_held key nest (Ok list) at value is = let same : values.Toks list ≡ value = cc in rw (← same) (key, at)
from_held key nest (Err fault) at value is = absurd cc

held_found : (key : ToksKey) (nest : Nest) (value : Value) → toks_held key nest ≡ Ok value → IsHeldIn nest value
held_found key nest value is = from_held key nest (toks_at nest key) refl value is

test_found : (b : Bool) (key : ToksKey) (nest : Nest) (value : Value) → (if b then toks_held key nest else Err RegisterRange) ≡ Ok value → IsHeldIn nest value
test_found true key nest value is = held_found key nest value is
test_found false key nest value is = absurd cc

reading_found : (n : ℤ) (nest : Nest) (value : Value) → toks_reading n nest ≡ Ok value → IsHeldIn nest value
unfolding toks_reading
reading_found (pos n) nest value is = test_found (nat_lt n 65536) (lists.Register n) nest value is
reading_found (negsuc n) nest value is = absurd cc

internal_from_gives : (s : Start) (x : FedToken) (rest : List FedToken) → Gives IsHeldFound (x ∷ rest) (internal_from s x rest)
internal_from_gives (starts.Internal q) x rest = (quantity_held q x.context.env, (x.token ∷ [], refl))
internal_from_gives (starts.Register r) x rest = register_then IsHeldFound x rest r whole_value (λ q c left. (quantity_held q c.env, itself left))
internal_from_gives (starts.Refused kind) x rest = tt
internal_from_gives starts.Space x rest = tt
internal_from_gives starts.Plus x rest = tt
internal_from_gives starts.Minus x rest = tt
internal_from_gives starts.Digit x rest = tt
internal_from_gives starts.Octal x rest = tt
internal_from_gives starts.Hexadecimal x rest = tt
internal_from_gives starts.Backquote x rest = tt
internal_from_gives starts.Point x rest = tt
internal_from_gives starts.Other x rest = tt

listed_gives : (l : Listed) (x : FedToken) (rest : List FedToken) → Gives IsHeldFound (x ∷ rest) (listed_from l x rest)
listed_gives (listeds.Whole key) x rest =
    after IsHeldFound x rest (given (toks_held key x.context.env) x.context rest)
    (given_gives IsHeldFound (toks_held key x.context.env) x.context rest (λ value is. held_found key x.context.env value is))
listed_gives listeds.Register x rest =
    after IsHeldFound x rest (integer rest >>= toks_register)
    (both All IsHeldFound rest (integer rest) toks_register (integer_gives rest) (λ n c left found.
    given_gives IsHeldFound (toks_reading n c.env) c left (λ value is. reading_found n c.env value is)))
listed_gives listeds.Nothing x rest = internal_from_gives (start x.token x.context) x rest

internal_gives : (list : List FedToken) → Gives IsHeldFound list (internal list)
unfolding internal
internal_gives [] = tt
internal_gives (x ∷ rest) = listed_gives (toks_start x.token x.context) x rest

-- ---- the rest

taken_gives : (b : Bool) (x : FedToken) (rest : List FedToken) → Gives IsHeldFound (x ∷ rest) (equals_taken b x rest)
taken_gives true x rest = (tt, (x.token ∷ [], refl))
taken_gives false x rest = (tt, itself (x ∷ rest))

equals_gives : (list : List FedToken) → Gives IsHeldFound list (equals list)
unfolding equals
equals_gives [] = tt
equals_gives (x ∷ rest) =
    either IsHeldFound (is_space x.token x.context) (x ∷ rest) (equals rest) (equals_taken (is_equals x.token) x rest) (after IsHeldFound x rest (equals rest) (equals_gives rest))
    (taken_gives (is_equals x.token) x rest)

byte_gives : (c : Option ℕ) (x : FedToken) (rest : List FedToken) (further : Answer (List ℕ)) → Gives All rest further → Gives All (x ∷ rest) (byte_before c x rest further)
byte_gives (Some c) x rest further gives = both All All (x ∷ rest) further _ (after All x rest further gives) (λ cs e left found. (tt, itself left))
byte_gives None x rest further gives = either All (ends_name x.token) (x ∷ rest) (Got [] x.context rest) (Got [] x.context (x ∷ rest)) (tt, (x.token ∷ [], refl)) (tt, itself (x ∷ rest))

bytes_give : (list : List FedToken) → Gives All list (name_bytes list)
unfolding name_bytes
bytes_give [] = tt
bytes_give (x ∷ rest) = byte_gives (name_byte x.token) x rest (name_bytes rest) (bytes_give rest)

named_gives : (cs : List ℕ) (context : Context) (rest : List FedToken) → Gives All rest (file_named cs context rest)
unfolding file_named
named_gives cs context rest = either All (is_file_name cs) rest (Got cs context rest) (Bad NoName) (tt, itself rest) tt

file_gives : (list : List FedToken) → Gives All list (file_name list)
unfolding file_name
file_gives [] = tt
file_gives (x ∷ rest) =
    either All (is_space x.token x.context) (x ∷ rest) (file_name rest) (name_bytes (x ∷ rest) >>= file_named) (after All x rest (file_name rest) (file_gives rest))
    (both All All (x ∷ rest) (name_bytes (x ∷ rest)) file_named (bytes_give (x ∷ rest)) (λ cs c left found. named_gives cs c left))

-- ---- all kinds

abbrev IsFound : Want → Value → Context → Type 0
IsFound want value context = IsHeldIn context.env value × IsMeasured want value

also_measured : (want : Want) (list : List FedToken) (answer : Answer Value) → ((value : Value) → IsMeasured want value) → Gives IsHeldFound list answer → Gives (IsFound want) list answer
also_measured want list (Got value context rest) measured gives = ((gives.0, measured value), gives.1)
also_measured want list (Needs form) measured gives = tt
also_measured want list (Bad kind) measured gives = tt

grammar_gives : (want : Want) (list : List FedToken) → Gives (IsFound want) list (grammar want list)
unfolding grammar
grammar_gives wants.Integer list = both All (IsFound wants.Integer) list (integer list) integer_value (integer_gives list) (λ n c left found. ((tt, tt), itself left))
grammar_gives wants.Dimen list = both IsSmall (IsFound wants.Dimen) list (dimen false list) dimen_value (dimen_gives false list) (λ d c left small. ((tt, small), itself left))
grammar_gives wants.Glue list = both All (IsFound wants.Glue) list (glue list) glue_value (glue_gives false list) (λ g c left found. ((tt, tt), itself left))
grammar_gives wants.Internal list = also_measured wants.Internal list (internal list) (λ value. tt) (internal_gives list)
grammar_gives wants.Equals list = also_measured wants.Equals list (equals list) (λ value. tt) (equals_gives list)
grammar_gives wants.BoxSize list = both IsSizeFound (IsFound wants.BoxSize) list (box_size list) size_value (box_size_gives list) (λ s c left size. ((tt, size), itself left))
grammar_gives wants.FileName list = both All (IsFound wants.FileName) list (file_name list) file_value (file_gives list) (λ name c left found. ((tt, tt), itself left))
grammar_gives (wants.Keyword word) list =
    both All (IsFound (wants.Keyword word)) list (keyword (word_letters word) list) keyword_value (keyword_gives (word_letters word) list) (λ b c left found. ((tt, tt), itself left))

last_fewer : (list rest : List FedToken) → AreLast (tokens_of list) (tokens_of rest) → length rest ≤ length list
last_fewer list rest last =
    let all : length (last.0 ++ tokens_of rest) ≡ length (tokens_of list) = ap length last.1 in
    let parts = length-append last.0 (tokens_of rest) in
    let tokens = length-map list (λ (x : FedToken). x.token) in
    let left = length-map rest (λ (x : FedToken). x.token) in
    omega (arith, all, parts, tokens, left)

module _ (want : Want) (list rest : List FedToken) (value : Value) (context : Context) (is : grammar want list ≡ Got value context rest) where
  found : Gives (IsFound want) list (Got value context rest)
  found = subst (λ answer. Gives (IsFound want) list answer) is (grammar_gives want list)

  pub last_left : AreLast (tokens_of list) (tokens_of rest)
  last_left = found.1

  pub no_longer : length rest ≤ length list
  no_longer = last_fewer list rest last_left

  pub list_held : IsHeldIn context.env value
  list_held = found.0.0

  pub measured : IsMeasured want value
  measured = found.0.1
