-- Categories are from 0 to 15, and kinds from 16 to 18.
use Rattle.std.proofs.Common.{◌≤◌, lit≤}
use Rattle.tok_lists.specs.Codes.{AreCodes}
use Rattle.env_groups.specs.declared.code.Category.{Category}
use Rattle.env_groups.specs.declared.code.Category.TheVariants.{Escape, BeginGroup, EndGroup, MathShift, Alignment, EndOfLine, Parameter, Superscript, Subscript, Ignored, Space, Letter, Other, Active, Comment, Invalid}
use Rattle.env_groups.specs.declared.code.Kind.{Kind}
use Rattle.env_groups.specs.declared.code.Kind.TheVariants.{Kanji, Kana, OtherKchar}
use Rattle.env_groups.specs.CharCodes.{category_number, kind_number}
use Rattle.env_groups.specs.Environments.{Nest, category_at, kind_at, codes_of}

category_within : (c : Category) → category_number c ≤ 15
category_within Escape = lit≤ tt
category_within BeginGroup = lit≤ tt
category_within EndGroup = lit≤ tt
category_within MathShift = lit≤ tt
category_within Alignment = lit≤ tt
category_within EndOfLine = lit≤ tt
category_within Parameter = lit≤ tt
category_within Superscript = lit≤ tt
category_within Subscript = lit≤ tt
category_within Ignored = lit≤ tt
category_within Space = lit≤ tt
category_within Letter = lit≤ tt
category_within Other = lit≤ tt
category_within Active = lit≤ tt
category_within Comment = lit≤ tt
category_within Invalid = lit≤ tt

kind_least : (k : Kind) → 16 ≤ kind_number k
kind_least Kanji = lit≤ tt
kind_least Kana = lit≤ tt
kind_least OtherKchar = lit≤ tt

kind_most : (k : Kind) → kind_number k ≤ 18
kind_most Kanji = lit≤ tt
kind_most Kana = lit≤ tt
kind_most OtherKchar = lit≤ tt

pub are_codes : (nest : Nest) → AreCodes (codes_of nest)
are_codes nest = (λ c. category_within (category_at nest c), λ k. (kind_least (kind_at nest k), kind_most (kind_at nest k)))
