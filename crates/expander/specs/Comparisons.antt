-- \ifx: whether two tokens mean the same (The TeXbook, chapter 20; TeX: The Program, section 507).
use Rattle.std.specs.Prelude.{Bool, length}
use Rattle.ts_base.specs.Agreement.{◌>>=◌}
use Rattle.tok_lists.specs.declared.token.Token.{Token}
use Rattle.env_groups.specs.declared.meaning.Meaning.{Meaning}
use Rattle.env_groups.specs.contracts.meaning.MeaningPartialEq.TheImpl.{eq-value}
use Rattle.env_groups.specs.Environments.{Nest}
use Rattle.mouth.specs.Reading.{Reading}
use Rattle.mouth.specs.Changes.{opened}
use Rattle.raw_texts.specs.Meanings.{meaning_of}
use Rattle.expander.specs.Worlds.{Outcome, plain_from}
use Rattle.expander.specs.Conditionals.{decided}

-- Two meanings are equal: macros with equal parameter text, body and \long; characters of equal code and category; equal
-- primitives; or equal numbers of registers, characters or fonts. A law says that it decides whether they are.
abbrev pub is_same_meaning : Meaning → Meaning → Bool
is_same_meaning first second = eq-value.it first second

abbrev pub mean_same : Nest → Token → Token → Bool
mean_same nest first second = is_same_meaning (meaning_of nest first) (meaning_of nest second)

-- Both tokens are read without expansion.
abbrev pub if_x : Nest → Reading → Outcome Reading
if_x nest r =
    plain_from nest (opened r) >>= λ a. plain_from nest a.1
    >>= λ b. decided nest (length r.conditionals) (mean_same nest a.0 b.0) b.1
