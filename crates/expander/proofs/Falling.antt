-- What steps of the mouth make of how much may still be read.
use Rattle.std.proofs.Common.{◌≡◌, ◌<◌, ◌+◌, ℕ, Result, Ok, Err, refl, ap}
use Rattle.ts_base.specs.Agreement.{◌>>=◌, with_fault}
use Rattle.tok_lists.specs.declared.token.Token.{Token}
use Rattle.env_groups.specs.Environments.{Nest, codes_of}
use Rattle.mouth.specs.declared.fault.MouthFault.{MouthFault}
use Rattle.mouth.specs.Reading.{Reading, Stop}
use Rattle.mouth.specs.Tokens.{next, plain}
use Rattle.mouth.specs.Changes.{begun}
use Rattle.mouth.specs.Sizes.{size}
use Rattle.mouth.proofs.Falls.{token_size, begun_size as begun_less}
use Rattle.expander.specs.Faults.{of_mouth}
use Rattle.expander.specs.Worlds.{token_from, plain_from}

-- equal steps after the same answer
pub bind_same : {X Y E : Type 0} (a : Result X E) (f g : X → Result Y E) → ((x : X) → a ≡ Ok x → f x ≡ g x) → (a >>= f) ≡ (a >>= g)
bind_same (Ok x) f g same = same x refl
bind_same (Err e) f g same = refl

token_less_by : (n : ℕ) (a : Result (Token × Reading) (Stop MouthFault)) (t : Token × Reading) → ((u : Token × Reading) → a ≡ Ok (u.0, u.1) → size u.1 < n) → with_fault of_mouth a ≡ Ok t → size t.1 < n
token_less_by n (Ok u) t less is = let same : u.1 ≡ t.1 = ap (λ (s : Token × Reading). s.1) (let both : u ≡ t = cc in both) in rw (← same) (less u refl)
token_less_by n (Err e) t less is = absurd cc

plain_less_by : (n : ℕ) (a : Result (Token × Reading) (Stop MouthFault)) (t : Token × Reading) → ((u : Token × Reading) → a ≡ Ok (u.0, u.1) → size u.1 < n)
    → with_fault of_mouth (a >>= λ u. Ok (plain u.0, u.1)) ≡ Ok t → size t.1 < n
plain_less_by n (Ok u) t less is = let same : u.1 ≡ t.1 = ap (λ (s : Token × Reading). s.1) (let both : (plain u.0, u.1) ≡ t = cc in both) in rw (← same) (less u refl)
plain_less_by n (Err e) t less is = absurd cc

pub token_less : (nest : Nest) (r : Reading) (t : Token × Reading) → token_from nest r ≡ Ok t → size t.1 < size r
token_less nest r t is = token_less_by (size r) (next (codes_of nest) r) t (λ u found. token_size (codes_of nest) r u.0 u.1 found) is

pub plain_less : (nest : Nest) (r : Reading) (t : Token × Reading) → plain_from nest r ≡ Ok t → size t.1 < size r
plain_less nest r t is = plain_less_by (size r) (next (codes_of nest) r) t (λ u found. token_size (codes_of nest) r u.0 u.1 found) is

begun_ok : (a : Result Reading (Stop MouthFault)) (r' : Reading) → with_fault of_mouth a ≡ Ok r' → a ≡ Ok r'
begun_ok (Ok r) r' is = let same : r ≡ r' = cc in ap (λ (s : Reading). Ok s) same
begun_ok (Err e) r' is = absurd cc

pub begun_size : (r r' : Reading) → with_fault of_mouth (begun r) ≡ Ok r' → size r' + 100000000000 ≡ size r
begun_size r r' is = begun_less r r' (begun_ok (begun r) r' is)
