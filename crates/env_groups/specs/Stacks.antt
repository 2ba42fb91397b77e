-- The same kind by kind: for each the tables of all environments. No public clause cites this module.
use Rattle.std.specs.Prelude.{◌≡◌, ℕ, ℤ, zero, suc, List, [], ◌∷◌, length, Option}
use Rattle.layered_tables.specs.Environments.{closed}
use Rattle.layered_tables.specs.Tables.{Table, innermost}
use Rattle.ts_geometry.specs.declared.glue.Glue.{Glue}
use Rattle.ts_geometry.specs.declared.measure.Sp.{Sp}
use Rattle.tok_lists.specs.declared.token.Token.{Token}
use Rattle.box_tree.specs.declared.item.FontNo.{FontNo}
use Rattle.box_tree.specs.Trees.{BoxTree}
use Rattle.env_groups.specs.declared.code.Category.{Category}
use Rattle.env_groups.specs.declared.code.Kind.{Kind}
use Rattle.env_groups.specs.declared.code.CharPenalty.{CharPenalty}
use Rattle.env_groups.specs.declared.meaning.Meaning.{Meaning}
use Rattle.env_groups.specs.Environments.{Environment}

pub record Stacks : Type 0 where
  pub ints : List (Table ℤ)
  pub dims : List (Table Sp)
  pub glues : List (Table Glue)
  pub toks : List (Table (List Token))
  pub boxes : List (Table (Option BoxTree))
  pub cats : List (Table Category)
  pub kinds : List (Table Kind)
  pub spacings : List (Table ℕ)
  pub penalties : List (Table CharPenalty)
  pub meanings : List (Table Meaning)
  pub selected : List (Table FontNo)

-- the innermost environment
abbrev pub first : Stacks → Environment
first s = record {
  ints = innermost s.ints;
  dims = innermost s.dims;
  glues = innermost s.glues;
  toks = innermost s.toks;
  boxes = innermost s.boxes;
  cats = innermost s.cats;
  kinds = innermost s.kinds;
  spacings = innermost s.spacings;
  penalties = innermost s.penalties;
  meanings = innermost s.meanings;
  selected = innermost s.selected;
}

-- the others
abbrev pub rest : Stacks → Stacks
rest s = record {
  ints = closed s.ints;
  dims = closed s.dims;
  glues = closed s.glues;
  toks = closed s.toks;
  boxes = closed s.boxes;
  cats = closed s.cats;
  kinds = closed s.kinds;
  spacings = closed s.spacings;
  penalties = closed s.penalties;
  meanings = closed s.meanings;
  selected = closed s.selected;
}

-- so many environments
abbrev pub rows : ℕ → Stacks → List Environment
rows zero s = []
rows (suc n) s = first s ∷ rows n (rest s)

-- all stacks are as tall
pub record AreTall (n : ℕ) (s : Stacks) : Type 0 where
  pub ints : length s.ints ≡ n
  pub dims : length s.dims ≡ n
  pub glues : length s.glues ≡ n
  pub toks : length s.toks ≡ n
  pub boxes : length s.boxes ≡ n
  pub cats : length s.cats ≡ n
  pub kinds : length s.kinds ≡ n
  pub spacings : length s.spacings ≡ n
  pub penalties : length s.penalties ≡ n
  pub meanings : length s.meanings ≡ n
  pub selected : length s.selected ≡ n
