-- What the fields of an Env stand for.
use Rattle.std.specs.Prelude.{◌≤◌, suc, length, reverse}
use Rattle.layered_tables.specs.Values.{HaveAll}
use Rattle.env_groups.specs.declared.env.Env.TheInside.{Inside}
use Rattle.env_groups.specs.Environments.{Nest, most_groups, most_fonts}
use Rattle.env_groups.specs.Macros.{IsMeaning, IsAdded}
use Rattle.env_groups.specs.Stacks.{Stacks, rows, AreTall}

abbrev pub stacks : Inside → Stacks
stacks e = record {
  ints = e.ints;
  dims = e.dims;
  glues = e.glues;
  toks = e.toks;
  boxes = e.boxes;
  cats = e.cats;
  kinds = e.kinds;
  spacings = e.spacings;
  penalties = e.penalties;
  meanings = e.meanings;
  selected = e.selected;
}

abbrev pub nest_of : Inside → Nest
nest_of e = record {
  environments = rows (suc (length e.groups.items)) (stacks e);
  groups = reverse e.groups.items;
  fonts = e.fonts;
  situation = e.situation;
}

-- All stacks are as tall as there are environments, groups and fonts are within their limits, and meanings and selected fonts
-- are as they should be in all environments.
pub record IsWhole (e : Inside) : Type 0 where
  pub tall : AreTall (suc (length e.groups.items)) (stacks e)
  pub few_groups : length e.groups.items ≤ most_groups
  pub few_fonts : length e.fonts ≤ most_fonts
  pub meanings : HaveAll (IsMeaning (length e.fonts)) e.meanings
  pub selected : HaveAll (IsAdded (length e.fonts)) e.selected
