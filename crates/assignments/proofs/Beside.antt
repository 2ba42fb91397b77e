-- What is stored leaves the situation, the fonts and the groups.
use Rattle.std.proofs.Common.{◌≡◌, ℕ, ℤ, List, Bool, true, false, Ok, Err, Result, refl, ◌∙◌}
use Rattle.std.specs.Prelude.{IfOk, if◌then◌else◌, nat_le, length, Option}
use Rattle.std.specs.Option.{ok_or}
use Rattle.std.proofs.lemmas.Result.{IfOk-at_ok}
use Rattle.ts_base.specs.Agreement.{◌>>=◌}
use Rattle.ts_geometry.specs.declared.glue.Glue.{Glue}
use Rattle.ts_geometry.specs.declared.measure.Sp.{Sp}
use Rattle.tok_lists.specs.declared.token.Token.{Token}
use Rattle.tok_lists.specs.declared.token.NameNo.{NameNo}
use Rattle.env_groups.specs.declared.fault.EnvFault.{EnvFault}
use Rattle.env_groups.specs.declared.fault.EnvFault.TheVariants.{CodeRange}
use Rattle.env_groups.specs.declared.key.IntKey.{IntKey}
use Rattle.env_groups.specs.declared.key.DimKey.{DimKey}
use Rattle.env_groups.specs.declared.key.GlueKey.{GlueKey}
use Rattle.env_groups.specs.declared.key.ToksKey.{ToksKey}
use Rattle.env_groups.specs.declared.code.CodeKey.{CodeKey}
use Rattle.env_groups.specs.declared.code.CodeKey.TheVariants as codes
use Rattle.env_groups.specs.declared.group.GroupKind.{GroupKind}
use Rattle.env_groups.specs.declared.meaning.Meaning.{Meaning}
use Rattle.env_groups.specs.CharCodes.{category_of, kind_of, spacing_of, penalty_of}
use Rattle.env_groups.specs.Places.{int_place, dim_place, glue_place, toks_place}
use Rattle.env_groups.specs.Environments.{Nest, int_set, dim_set, glue_set, toks_set, code_set, meaning_set, group_opened, group_closed, most_groups, is_innermost}
use Rattle.assignments.specs.Beside.{IsBeside}
use Rattle.assignments.proofs.Fitting.{stored}

pub same_beside : (old new : Nest) → new ≡ old → IsBeside old new
same_beside old new same = rw same (record { situation = refl; fonts = refl; groups = refl })

pub beside_then : (old middle new : Nest) → IsBeside old middle → IsBeside middle new → IsBeside old new
beside_then old middle new first second = record {
  situation = second.situation ∙ first.situation;
  fonts = second.fonts ∙ first.fonts;
  groups = second.groups ∙ first.groups;
}

-- What is found, and made of it.
made_beside : {X : Type 0} (old : Nest) (found : Result X EnvFault) (made : X → Nest) → ((x : X) → IsBeside old (made x)) → IfOk (found >>= λ x. Ok (made x)) (IsBeside old)
made_beside old (Ok x) made beside = beside x
made_beside old (Err e) made beside = tt

module _ (old new : Nest) where
  pub int_beside : (key : IntKey) (value : ℤ) (is_global : Bool) → int_set old key value is_global ≡ Ok new → IsBeside old new
  int_beside key value is_global is = IfOk-at_ok (IsBeside old) is (made_beside old (int_place key) _ (λ place. record { situation = refl; fonts = refl; groups = refl }))

  pub dim_beside : (key : DimKey) (value : Sp) (is_global : Bool) → dim_set old key value is_global ≡ Ok new → IsBeside old new
  dim_beside key value is_global is = IfOk-at_ok (IsBeside old) is (made_beside old (dim_place key) _ (λ place. record { situation = refl; fonts = refl; groups = refl }))

  pub glue_beside : (key : GlueKey) (value : Glue) (is_global : Bool) → glue_set old key value is_global ≡ Ok new → IsBeside old new
  glue_beside key value is_global is = IfOk-at_ok (IsBeside old) is (made_beside old (glue_place key) _ (λ place. record { situation = refl; fonts = refl; groups = refl }))

  pub toks_beside : (key : ToksKey) (value : List Token) (is_global : Bool) → toks_set old key value is_global ≡ Ok new → IsBeside old new
  toks_beside key value is_global is = IfOk-at_ok (IsBeside old) is (made_beside old (toks_place key) _ (λ place. record { situation = refl; fonts = refl; groups = refl }))

  pub code_beside : (key : CodeKey) (value : ℤ) (is_global : Bool) → code_set old key value is_global ≡ Ok new → IsBeside old new
  code_beside (codes.Cat c) value is_global is = IfOk-at_ok (IsBeside old) is (made_beside old (ok_or (category_of value) CodeRange) _ (λ v. record { situation = refl; fonts = refl; groups = refl }))
  code_beside (codes.Kcat k) value is_global is = IfOk-at_ok (IsBeside old) is (made_beside old (ok_or (kind_of value) CodeRange) _ (λ v. record { situation = refl; fonts = refl; groups = refl }))
  code_beside (codes.Xsp c) value is_global is = IfOk-at_ok (IsBeside old) is (made_beside old (ok_or (spacing_of value) CodeRange) _ (λ v. record { situation = refl; fonts = refl; groups = refl }))
  code_beside (codes.InhibitXsp k) value is_global is = IfOk-at_ok (IsBeside old) is (made_beside old (ok_or (spacing_of value) CodeRange) _ (λ v. record { situation = refl; fonts = refl; groups = refl }))
  code_beside (codes.Pre c) value is_global is = IfOk-at_ok (IsBeside old) is (made_beside old (ok_or (penalty_of value) CodeRange) _ (λ v. record { situation = refl; fonts = refl; groups = refl }))
  code_beside (codes.Post c) value is_global is = IfOk-at_ok (IsBeside old) is (made_beside old (ok_or (penalty_of value) CodeRange) _ (λ v. record { situation = refl; fonts = refl; groups = refl }))

pub meaning_beside : (old new : Nest) (name : NameNo) (value : Meaning) (is_global : Bool) → stored (meaning_set old name.0 value is_global) ≡ Ok new → IsBeside old new
meaning_beside old new name value is_global is =
    let same : meaning_set old name.0 value is_global ≡ new = cc in
    rw (← same) (record { situation = refl; fonts = refl; groups = refl })

-- ---- groups

abbrev Stays : Nest → Nest → Type 0
Stays old new = (new.situation ≡ old.situation) × (new.fonts ≡ old.fonts)

one_stays : (old one : Nest) (b : Bool) (fault : EnvFault) → Stays old one → IfOk (if b then Err fault else Ok one) (Stays old)
one_stays old one true fault stays = tt
one_stays old one false fault stays = stays

other_stays : (old one : Nest) (b : Bool) (fault : EnvFault) → Stays old one → IfOk (if b then Ok one else Err fault) (Stays old)
other_stays old one true fault stays = stays
other_stays old one false fault stays = tt

opening_stays : (old new : Nest) (kind : GroupKind) → group_opened old kind ≡ Ok new → Stays old new
opening_stays old new kind is = IfOk-at_ok (Stays old) is (one_stays old _ (nat_le most_groups (length old.groups)) _ (refl, refl))

closing_stays : (old new : Nest) (kind : GroupKind) → group_closed old kind ≡ Ok new → Stays old new
closing_stays old new kind is = IfOk-at_ok (Stays old) is (other_stays old _ (is_innermost kind old.groups) _ (refl, refl))

pub opening_situation : (old new : Nest) (kind : GroupKind) → group_opened old kind ≡ Ok new → new.situation ≡ old.situation
opening_situation old new kind is = (opening_stays old new kind is).0

pub opening_fonts : (old new : Nest) (kind : GroupKind) → group_opened old kind ≡ Ok new → new.fonts ≡ old.fonts
opening_fonts old new kind is = (opening_stays old new kind is).1

pub closing_situation : (old new : Nest) (kind : GroupKind) → group_closed old kind ≡ Ok new → new.situation ≡ old.situation
closing_situation old new kind is = (closing_stays old new kind is).0

pub closing_fonts : (old new : Nest) (kind : GroupKind) → group_closed old kind ≡ Ok new → new.fonts ≡ old.fonts
closing_fonts old new kind is = (closing_stays old new kind is).1
