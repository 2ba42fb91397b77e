-- An environment stays fit for expansion after each thing that is stored.
use Rattle.std.proofs.Common.{◌≡◌, ℕ, ℤ, List, Bool, Ok, Result, IfOk}
use Rattle.ts_geometry.specs.declared.glue.Glue.{Glue}
use Rattle.ts_geometry.specs.declared.measure.Sp.{Sp}
use Rattle.tok_lists.specs.declared.spelling.Spelling.{Spelling}
use Rattle.tok_lists.specs.declared.token.Token.{Token}
use Rattle.tok_lists.specs.declared.token.Token.TheVariants as tokens
use Rattle.tok_lists.specs.declared.token.NameNo.{NameNo}
use Rattle.env_groups.specs.declared.fault.EnvFault.{EnvFault}
use Rattle.env_groups.specs.declared.key.IntKey.{IntKey}
use Rattle.env_groups.specs.declared.key.DimKey.{DimKey}
use Rattle.env_groups.specs.declared.key.GlueKey.{GlueKey}
use Rattle.env_groups.specs.declared.key.ToksKey.{ToksKey}
use Rattle.env_groups.specs.declared.code.CodeKey.{CodeKey}
use Rattle.env_groups.specs.declared.group.GroupKind.{GroupKind}
use Rattle.env_groups.specs.declared.prim.PrimitiveName.{PrimitiveName}
use Rattle.env_groups.specs.declared.meaning.MacroDef.{MacroDef}
use Rattle.env_groups.specs.declared.meaning.Meaning.{Meaning}
use Rattle.env_groups.specs.declared.meaning.Meaning.TheVariants as meanings
use Rattle.env_groups.specs.Macros.{IsMacro, IsMeaning}
use Rattle.env_groups.specs.StartMeanings.{primitive_or_none, start_prims}
use Rattle.env_groups.specs.Environments.{Nest, int_set, dim_set, glue_set, toks_set, code_set, meaning_set, toks_at, meaning_at, group_opened, group_closed}
use Rattle.env_groups.proofs.Keeping.{int_keeps, dim_keeps, glue_keeps, toks_keeps, code_keeps, meaning_keeps, open_keeps, close_keeps, meaning_has, toks_has}
use Rattle.std.specs.Prelude.{Option, Some, None, slice_get}
use Rattle.mouth.specs.Keeping.{IsToken}
use Rattle.raw_texts.specs.Meanings.{meaning_of}
use Rattle.macros.specs.Definitions.{IsDefined}
use Rattle.expander.specs.Holding.{AreFit, IsFit, IsPlainList}
use Rattle.assignments.specs.Namings.{macro_meaning}

module _ (names : List Spelling) (old new : Nest) where
  pub int_fits : (key : IntKey) (value : ℤ) (is_global : Bool) → int_set old key value is_global ≡ Ok new → AreFit names old → AreFit names new
  unfolding AreFit
  int_fits key value is_global is fit = (fit.0, int_keeps (IsFit names) (IsPlainList names) (λ _. Unit {0}) old new key value is_global is fit.1)

  pub dim_fits : (key : DimKey) (value : Sp) (is_global : Bool) → dim_set old key value is_global ≡ Ok new → AreFit names old → AreFit names new
  unfolding AreFit
  dim_fits key value is_global is fit = (fit.0, dim_keeps (IsFit names) (IsPlainList names) (λ _. Unit {0}) old new key value is_global is fit.1)

  pub glue_fits : (key : GlueKey) (value : Glue) (is_global : Bool) → glue_set old key value is_global ≡ Ok new → AreFit names old → AreFit names new
  unfolding AreFit
  glue_fits key value is_global is fit = (fit.0, glue_keeps (IsFit names) (IsPlainList names) (λ _. Unit {0}) old new key value is_global is fit.1)

  pub code_fits : (key : CodeKey) (value : ℤ) (is_global : Bool) → code_set old key value is_global ≡ Ok new → AreFit names old → AreFit names new
  unfolding AreFit
  code_fits key value is_global is fit = (fit.0, code_keeps (IsFit names) (IsPlainList names) (λ _. Unit {0}) old new key value is_global is fit.1)

  pub toks_fits : (key : ToksKey) (value : List Token) (is_global : Bool) → toks_set old key value is_global ≡ Ok new → IsPlainList names value → AreFit names old → AreFit names new
  unfolding AreFit
  toks_fits key value is_global is of fit = (fit.0, toks_keeps (IsFit names) (IsPlainList names) (λ _. Unit {0}) old new key value is_global is of fit.1)

  pub opening_fits : (kind : GroupKind) → group_opened old kind ≡ Ok new → AreFit names old → AreFit names new
  unfolding AreFit
  opening_fits kind is fit = (fit.0, open_keeps (IsFit names) (IsPlainList names) (λ _. Unit {0}) old new kind is fit.1)

  pub closing_fits : (kind : GroupKind) → group_closed old kind ≡ Ok new → AreFit names old → AreFit names new
  unfolding AreFit
  closing_fits kind is fit = (fit.0, close_keeps (IsFit names) (IsPlainList names) (λ _. Unit {0}) old new kind is fit.1)

pub meaning_fits_at : (names : List Spelling) (nest : Nest) (name : ℕ) (value : Meaning) (is_global : Bool) → IsFit names value → AreFit names nest → AreFit names (meaning_set nest name value is_global)
unfolding AreFit
meaning_fits_at names nest name value is_global of fit = (fit.0, meaning_keeps (IsFit names) (IsPlainList names) (λ _. Unit {0}) nest name value is_global of fit.1)

abbrev pub stored : Nest → Result Nest EnvFault
stored nest = Ok nest

pub meaning_fits : (names : List Spelling) (old new : Nest) (name : NameNo) (value : Meaning) (is_global : Bool) → stored (meaning_set old name.0 value is_global) ≡ Ok new → IsFit names value → AreFit names old → AreFit names new
meaning_fits names old new name value is_global is of fit =
    let same : meaning_set old name.0 value is_global ≡ new = cc in
    rw (← same) (meaning_fits_at names old name.0 value is_global of fit)

-- ---- what is looked up

start_fits : (names : List Spelling) (p : Option PrimitiveName) → IsFit names (primitive_or_none p)
start_fits names (Some p) = tt
start_fits names None = tt

pub name_fits : (names : List Spelling) (nest : Nest) (n : ℕ) → AreFit names nest → IsFit names (meaning_at nest n)
unfolding AreFit
name_fits names nest n fit = meaning_has (IsFit names) (IsPlainList names) (λ _. Unit {0}) nest n fit.1 (start_fits names (slice_get start_prims n))

-- What a token means is fit.
pub token_fits : (names : List Spelling) (nest : Nest) (token : Token) → AreFit names nest → IsToken names token → IsFit names (meaning_of nest token)
token_fits names nest (tokens.Char code cat) fit is = tt
token_fits names nest (tokens.Ja cell) fit is = tt
token_fits names nest (tokens.Name name) fit is = name_fits names nest name.0 fit
token_fits names nest (tokens.Kept name) fit is = name_fits names nest name.0 fit
token_fits names nest (tokens.Param n) fit is = tt

pub toks_fit : (names : List Spelling) (nest : Nest) (key : ToksKey) (value : List Token) → toks_at nest key ≡ Ok value → AreFit names nest → IsPlainList names value
unfolding AreFit
toks_fit names nest key value is fit = toks_has (IsFit names) (IsPlainList names) (λ _. Unit {0}) nest key value is fit.1 (tt, tt)

-- ---- macros

pub macro_sound : (fonts : ℕ) (names : List Spelling) (is_long : Bool) (d : MacroDef) → IsDefined names d → IsMeaning fonts (macro_meaning is_long d)
macro_sound fonts names is_long d is = record { numbered = is.sound.numbered; few = is.sound.few; body = is.sound.body }

pub macro_fits : (names : List Spelling) (is_long : Bool) (d : MacroDef) → IsDefined names d → IsFit names (macro_meaning is_long d)
macro_fits names is_long d is = record { params = is.params; body = is.body; plain = is.braces }
