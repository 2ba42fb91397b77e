-- Environments are stored as tuples of their tables.
use Rattle.std.specs.Prelude.{ℤ, ℕ, List, Option, refl}
use Rattle.std.specs.Coded.{Coded, code_by, coded×, coded_ℕ, coded_ℤ, coded_list, coded_option}
use Rattle.ts_geometry.specs.declared.glue.Glue.{Glue}
use Rattle.ts_geometry.specs.declared.measure.Sp.{Sp}
use Rattle.ts_geometry.specs.contracts.glue.Glue as glues
use Rattle.ts_geometry.specs.contracts.measure.Sp as sps
use Rattle.tok_lists.specs.declared.token.Token.{Token}
use Rattle.tok_lists.specs.contracts.token.Token as tokens
use Rattle.box_tree.specs.declared.item.FontNo.{FontNo}
use Rattle.box_tree.specs.contracts.item.FontNo as font_nos
use Rattle.box_tree.specs.Trees.{BoxTree}
use Rattle.box_tree.specs.Codes.{coded_tree}
use Rattle.layered_tables.specs.Tables.{Table, table_code}
use Rattle.env_groups.specs.declared.group.GroupKind.{GroupKind}
use Rattle.env_groups.specs.contracts.group.GroupKind as groups
use Rattle.env_groups.specs.declared.font.FontFacts.{FontFacts}
use Rattle.env_groups.specs.contracts.font.FontFacts as facts
use Rattle.env_groups.specs.declared.situation.Situation.{Situation}
use Rattle.env_groups.specs.contracts.situation.Situation as situations
use Rattle.env_groups.specs.declared.code.Category.{Category}
use Rattle.env_groups.specs.contracts.code.Category as categories
use Rattle.env_groups.specs.declared.code.Kind.{Kind}
use Rattle.env_groups.specs.contracts.code.Kind as kinds
use Rattle.env_groups.specs.declared.code.CharPenalty.{CharPenalty}
use Rattle.env_groups.specs.contracts.code.CharPenalty as penalties
use Rattle.env_groups.specs.declared.meaning.Meaning.{Meaning}
use Rattle.env_groups.specs.contracts.meaning.Meaning as meanings
use Rattle.env_groups.specs.Environments.{Environment, Nest}

abbrev Values : Type 0
Values = Table ℤ × (Table Sp × (Table Glue × (Table (List Token) × Table (Option BoxTree))))

abbrev Characters : Type 0
Characters = Table Category × (Table Kind × (Table ℕ × (Table CharPenalty × (Table Meaning × Table FontNo))))

abbrev coded_values : Coded Values
coded_values =
    coded× (table_code coded_ℤ) (coded× (table_code sps.the_row.coded) (coded× (table_code glues.the_row.coded)
    (coded× (table_code (coded_list tokens.the_row.coded)) (table_code (coded_option coded_tree)))))

abbrev coded_characters : Coded Characters
coded_characters =
    coded× (table_code categories.the_row.coded) (coded× (table_code kinds.the_row.coded) (coded× (table_code coded_ℕ)
    (coded× (table_code penalties.the_row.coded) (coded× (table_code meanings.the_row.coded) (table_code font_nos.the_row.coded)))))

abbrev pub environment_code : Coded Environment
environment_code =
    code_by (Values × Characters) (coded× coded_values coded_characters)
    (λ e. ((e.ints, (e.dims, (e.glues, (e.toks, e.boxes)))), (e.cats, (e.kinds, (e.spacings, (e.penalties, (e.meanings, e.selected)))))))
    (λ t. record {
      ints = t.0.0;
      dims = t.0.1.0;
      glues = t.0.1.1.0;
      toks = t.0.1.1.1.0;
      boxes = t.0.1.1.1.1;
      cats = t.1.0;
      kinds = t.1.1.0;
      spacings = t.1.1.1.0;
      penalties = t.1.1.1.1.0;
      meanings = t.1.1.1.1.1.0;
      selected = t.1.1.1.1.1.1;
    })
    (λ _. refl)

abbrev pub nest_code : Coded Nest
nest_code =
    code_by (List Environment × (List GroupKind × (List FontFacts × Situation)))
    (coded× (coded_list environment_code) (coded× (coded_list groups.the_row.coded) (coded× (coded_list facts.the_row.coded) situations.the_row.coded)))
    (λ n. (n.environments, (n.groups, (n.fonts, n.situation))))
    (λ t. record { environments = t.0; groups = t.1.0; fonts = t.1.1.0; situation = t.1.1.1 })
    (λ _. refl)
