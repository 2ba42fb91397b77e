-- The glyphs of open lists and of their boxes are those of the fonts.
use Rattle.std.proofs.Common.{◌≡◌, ◌⊎◌, inl, inr, ℕ, zero, suc, ◌<◌, Bool, true, false, List, [], ◌∷◌, ◌++◌, All, Option, Some, None, Result, Ok, Err, if◌then◌else◌, refl, sym, ◌∙◌}
use Rattle.std.specs.Prelude.{IfSome, Contains, slice_get}
use Rattle.std.proofs.lemmas.List.Elements.{All-nil, All-cons, All-head, All-tail, All-weaker, All-contains}
use Rattle.ts_base.specs.Agreement.{◌>>=◌}
use Rattle.ts_geometry.specs.declared.direction.Dir.{Dir}
use Rattle.ts_geometry.specs.declared.measure.Measures.{Measures}
use Rattle.jis_codes.specs.Kuten.{Kuten, IsKuten}
use Rattle.jis_codes.specs.Spellings.{jis}
use Rattle.jis_codes.specs.Numbers.{number_of}
use Rattle.jis_codes.specs.declared.Char.{Char}
use Rattle.jis_codes.specs.declared.Char.TheVariants as chars
use Rattle.box_tree.specs.declared.item.FontNo.{FontNo}
use Rattle.box_tree.specs.declared.item.Item.{Item}
use Rattle.box_tree.specs.declared.item.Item.TheVariants as items
use Rattle.box_tree.specs.Nodes.{tree_item, tree_items}
use Rattle.box_tree.specs.Trees.{Plain, glyph, kanji, rule, glue, kern, penalty, BoxTree, node, TreeItems, no_items, item, TreeItem, plain, box, crossed}
use Rattle.env_groups.specs.Environments.{Nest, font_at}
use Rattle.env_groups.specs.declared.font.FontSlot.TheVariants as slots
use Rattle.tfm_load.specs.Metrics as tfm
use Rattle.tfm_load.specs.Sound.{HasItsLigatures}
use Rattle.jfm_load.specs.Metrics as jfm
use Rattle.font_store.specs.declared.fonts.Font.{Font}
use Rattle.font_store.specs.declared.metric.Metric.{Metric}
use Rattle.font_store.specs.declared.metric.Metric.TheVariants as metrics
use Rattle.font_store.specs.Store as store
use Rattle.font_store.specs.Store.{BeginWith}
use Rattle.font_store.specs.Measures.{measures_by, IsWhole, AreWhole, CellsHaveTheirMeasures}
use Rattle.node_links.specs.declared.fault.ListFault.{ListFault}
use Rattle.node_links.specs.declared.fault.ListFault.TheVariants.{ListFull}
use Rattle.packaging.specs.declared.fault.PackFault.{PackFault}
use Rattle.packaging.specs.Packing.{hpacked}
use Rattle.packaging.specs.Laws.{PackedIsItsNode}
use Rattle.jlist_builder.specs.Entries.{EuropeanCharacter, Entry, Japanese, European, Other, Cut, Inhibit}
use Rattle.jlist_builder.specs.Pieces.{size_of}
use Rattle.jlist_builder.specs.Stands.{is_full}
use Rattle.jlist_builder.specs.Glyphs as built
use Rattle.jlist_builder.specs.Glyphs.{ComesFrom, IsOwnItem, IsCodeOf, IsKanjiOf}
use Rattle.kanjiskip_adjust.specs.EndCodes.{Codes}
use Rattle.kanjiskip_adjust.specs.Finished.{finished_list}
use Rattle.kanjiskip_adjust.specs.Laws.{FinishedGlyphsComeFromEntries}
use Rattle.open_lists.specs.declared.fault.OpenFault.{OpenFault}
use Rattle.open_lists.specs.declared.fault.OpenFault.TheVariants as faults
use Rattle.open_lists.specs.declared.plan.BoxPlan.{BoxPlan}
use Rattle.open_lists.specs.declared.plan.EndedBox.{EndedBox}
use Rattle.open_lists.specs.Characters.{kanji_slot, kanji_by, roman_by, by_font, by_number, kanji_entry, roman_entry, entry_of}
use Rattle.open_lists.specs.Glyphs.{IsGlyphOf, IsPlainOf, IsBoxOf, AreItemsOf, IsItemOf, IsJapaneseOf, IsEuropeanOf, IsEntryOf, AreContentsOf, AreOf, IsCharacter}
use Rattle.open_lists.specs.Lists.{Contents, Restricted, OpenList, OpenLists, start, put, put_in_first, put_in_list, put_into, with_entry, with_entry_if, marked, mark_first, marked_list, mark_in, is_deep, with_hbox, hbox_begun, box_of_items, box_of, box_of_first, hbox_ended, around, rest}

-- ---- fonts

get_more : {A : Type 0} (xs more : List A) (n : ℕ) (x : A) → slice_get xs n ≡ Some x → slice_get (xs ++ more) n ≡ Some x
get_more [] more n x is = absurd cc
get_more (y ∷ xs) more zero x is = is
get_more (y ∷ xs) more (suc n) x is = get_more xs more n x is

font_more : (fonts all : List Font) (number : FontNo) (font : Font) → BeginWith all fonts → store.font_at fonts number ≡ Some font
    → store.font_at all number ≡ Some font
font_more fonts all number font more is = rw more.1 (get_more fonts more.0 number.0 font is)

all_at : {A : Type 0} (P : A → Type 0) (xs : List A) (n : ℕ) (x : A) → All P xs → slice_get xs n ≡ Some x → P x
all_at P [] n x all is = absurd cc
all_at P (y ∷ xs) zero x all is = let same : y ≡ x = cc in rw (← same) (All-head P y xs all)
all_at P (y ∷ xs) (suc n) x all is = all_at P xs n x (All-tail P y xs all) is

whole_at : (fonts : List Font) (number : FontNo) (font : Font) → AreWhole fonts → store.font_at fonts number ≡ Some font → IsWhole font.metric
unfolding AreWhole
whole_at fonts number font whole is = all_at (λ (f : Font). IsWhole f.metric) fonts number.0 font whole is

-- ---- entries of characters

module _ (fonts : List Font) (nest : Nest) where
  kanji_by_metric : (cell : Kuten) (number : FontNo) (font : Font) (metric : Metric) → IsKuten cell → store.font_at fonts number ≡ Some font
      → font.metric ≡ metric → IfSome (kanji_by nest cell number font.size metric) (IsEntryOf fonts)
  kanji_by_metric cell number font (metrics.Japanese m) there is metric =
      record { font = font; there = is; metric = metric; size = refl; cell = there }
  kanji_by_metric cell number font (metrics.Roman m) there is metric = tt

  kanji_by_font : (cell : Kuten) (number : FontNo) (o : Option Font) → IsKuten cell → store.font_at fonts number ≡ o
      → IfSome (by_font (λ n z m. kanji_by nest cell n z m) number o) (IsEntryOf fonts)
  kanji_by_font cell number (Some font) there is = kanji_by_metric cell number font font.metric there is refl
  kanji_by_font cell number None there is = tt

  kanji_by_number : (cell : Kuten) (o : Option FontNo) → IsKuten cell → IfSome (by_number fonts (λ n z m. kanji_by nest cell n z m) o) (IsEntryOf fonts)
  kanji_by_number cell (Some number) there = kanji_by_font cell number (store.font_at fonts number) there refl
  kanji_by_number cell None there = tt

  roman_where : (dir : Dir) (code : ℕ) (number : FontNo) (font : Font) (m : tfm.Metric) (b : Bool) (x : EuropeanCharacter)
      → x.metric ≡ m → x.font ≡ number → x.z ≡ font.size → x.code ≡ code
      → store.font_at fonts number ≡ Some font → font.metric ≡ metrics.Roman m → tfm.has_character m code ≡ b
      → IfSome (if b then Some (European x) else None) (IsEntryOf fonts)
  roman_where dir code number font m true x is_m is_n is_z is_c is metric there =
      record { font = font; there = rw is_n is; metric = rw is_m metric; size = sym is_z; code = rw (is_m, is_c) there }
  roman_where dir code number font m false x is_m is_n is_z is_c is metric there = tt

  roman_by_metric : (dir : Dir) (code : ℕ) (number : FontNo) (font : Font) (metric : Metric) → store.font_at fonts number ≡ Some font
      → font.metric ≡ metric → IfSome (roman_by nest dir code number font.size metric) (IsEntryOf fonts)
  roman_by_metric dir code number font (metrics.Japanese m) is metric = tt
  roman_by_metric dir code number font (metrics.Roman m) is metric =
      roman_where dir code number font m (tfm.has_character m code) _ refl refl refl refl is metric refl

  roman_by_font : (dir : Dir) (code : ℕ) (number : FontNo) (o : Option Font) → store.font_at fonts number ≡ o
      → IfSome (by_font (λ n z m. roman_by nest dir code n z m) number o) (IsEntryOf fonts)
  roman_by_font dir code number (Some font) is = roman_by_metric dir code number font font.metric is refl
  roman_by_font dir code number None is = tt

  roman_by_number : (dir : Dir) (code : ℕ) (o : Option FontNo) → IfSome (by_number fonts (λ n z m. roman_by nest dir code n z m) o) (IsEntryOf fonts)
  roman_by_number dir code (Some number) = roman_by_font dir code number (store.font_at fonts number) refl
  roman_by_number dir code None = tt

pub kanji_of : (fonts : List Font) (nest : Nest) (dir : Dir) (cell : Kuten) → IsKuten cell → IfSome (kanji_entry fonts nest dir cell) (IsEntryOf fonts)
kanji_of fonts nest dir cell there = kanji_by_number fonts nest cell (font_at nest (kanji_slot dir)) there

pub roman_of : (fonts : List Font) (nest : Nest) (dir : Dir) (code : ℕ) → IfSome (roman_entry fonts nest dir code) (IsEntryOf fonts)
roman_of fonts nest dir code = roman_by_number fonts nest dir code (font_at nest slots.Roman)

pub char_of : (fonts : List Font) (nest : Nest) (dir : Dir) (c : Char) → IsCharacter c → IfSome (entry_of fonts nest dir c) (IsEntryOf fonts)
char_of fonts nest dir (chars.Ja cell) there = kanji_of fonts nest dir cell there
char_of fonts nest dir (chars.One code) there = roman_of fonts nest dir code

-- ---- fonts that come after them

module _ (fonts all : List Font) (more : BeginWith all fonts) where
  glyph_grown : (number : FontNo) (code : ℕ) (size : Measures) → IsGlyphOf fonts number code size → IsGlyphOf all number code size
  glyph_grown number code size h = record { font = h.font; there = font_more fonts all number h.font more h.there; measures = h.measures }

  plain_grown : (p : Plain) → IsPlainOf fonts p → IsPlainOf all p
  plain_grown (glyph font code size shift first last) h = glyph_grown font code size h
  plain_grown (kanji font cell size kind) h = glyph_grown font (number_of jis cell) size h
  plain_grown (rule wd ht dp) h = tt
  plain_grown (glue g from) h = tt
  plain_grown (kern width from) h = tt
  plain_grown (penalty value auto) h = tt

  mutual
    tree_grown : (b : BoxTree) → IsBoxOf fonts b → IsBoxOf all b
    tree_grown (node kind dir size set xs) h = items_grown xs h

    items_grown : (xs : TreeItems) → AreItemsOf fonts xs → AreItemsOf all xs
    items_grown no_items h = tt
    items_grown (item x xs) h = (item_grown x h.0, items_grown xs h.1)

    item_grown : (x : TreeItem) → IsItemOf fonts x → IsItemOf all x
    item_grown (plain p) h = plain_grown p h
    item_grown (box b shift) h = tree_grown b h
    item_grown (crossed b shift seen) h = tree_grown b h

  entry_grown : (x : Entry) → IsEntryOf fonts x → IsEntryOf all x
  entry_grown (Japanese k) h =
      record { font = h.font; there = font_more fonts all k.font h.font more h.there; metric = h.metric; size = h.size; cell = h.cell }
  entry_grown (European a) h =
      record { font = h.font; there = font_more fonts all a.font h.font more h.there; metric = h.metric; size = h.size; code = h.code }
  entry_grown (Other i) h = item_grown (tree_item i) h
  entry_grown Cut h = tt
  entry_grown Inhibit h = tt

  contents_grown : (c : Contents) → AreContentsOf fonts c → AreContentsOf all c
  contents_grown (Restricted plan entries) h = All-weaker (IsEntryOf fonts) (IsEntryOf all) entry_grown entries h

pub box_grown : (fonts all : List Font) (tree : BoxTree) → IsBoxOf fonts tree → BeginWith all fonts → IsBoxOf all tree
box_grown fonts all tree h more = tree_grown fonts all more tree h

-- ---- open lists

abbrev IsListOf : List Font → OpenList → Type 0
IsListOf fonts l = AreContentsOf fonts l.contents

pub start_of : (fonts : List Font) → AreOf fonts start
unfolding AreOf
start_of fonts = All-nil (IsListOf fonts)

pub grown_of : (fonts all : List Font) (lists : OpenLists) → AreOf fonts lists → BeginWith all fonts → AreOf all lists
unfolding AreOf
grown_of fonts all lists h more =
    All-weaker (IsListOf fonts) (IsListOf all) (λ l given. contents_grown fonts all more l.contents given) lists.inner h

rest_of : (fonts : List Font) (ls : List OpenList) → All (IsListOf fonts) ls → All (IsListOf fonts) (rest ls)
rest_of fonts [] h = h
rest_of fonts (l ∷ ls) h = All-tail (IsListOf fonts) l ls h

pub around_of : (fonts : List Font) (lists : OpenLists) → AreOf fonts lists → AreOf fonts (around lists)
unfolding AreOf
around_of fonts lists h = rest_of fonts lists.inner h

mark_in_of : (fonts : List Font) (x : Entry) (c : Contents) → AreContentsOf fonts c → IsEntryOf fonts x → AreContentsOf fonts (mark_in x c)
mark_in_of fonts x (Restricted plan entries) h is = All-cons (IsEntryOf fonts) x entries is h

mark_first_of : (fonts : List Font) (x : Entry) (ls : List OpenList) → All (IsListOf fonts) ls → IsEntryOf fonts x → All (IsListOf fonts) (mark_first x ls)
mark_first_of fonts x [] h is = h
mark_first_of fonts x (l ∷ ls) h is =
    All-cons (IsListOf fonts) (marked_list x l) ls (mark_in_of fonts x l.contents (All-head (IsListOf fonts) l ls h) is) (All-tail (IsListOf fonts) l ls h)

pub marked_of : (fonts : List Font) (x : Entry) (lists : OpenLists) → AreOf fonts lists → IsEntryOf fonts x → AreOf fonts (marked x lists)
unfolding AreOf
marked_of fonts x lists h is = mark_first_of fonts x lists.inner h is

begun_where : (fonts : List Font) (plan : BoxPlan) (lists more : OpenLists) (b : Bool) → All (IsListOf fonts) lists.inner
    → (if b then Err faults.DepthFull else Ok (with_hbox plan lists)) ≡ Ok more → All (IsListOf fonts) more.inner
begun_where fonts plan lists more true h is = absurd cc
begun_where fonts plan lists more false h is =
    let same : with_hbox plan lists ≡ more = cc in
    rw (← same) (All-cons (IsListOf fonts) _ lists.inner (All-nil (IsEntryOf fonts)) h)

pub begun_of : (fonts : List Font) (plan : BoxPlan) (lists more : OpenLists) → AreOf fonts lists → hbox_begun plan lists ≡ Ok more → AreOf fonts more
unfolding AreOf
begun_of fonts plan lists more h is = begun_where fonts plan lists more (is_deep lists) h is

-- ---- an entry that is put

module _ (fonts : List Font) where
  full_or : (x : Entry) (entries more : List Entry) (b : Bool) → All (IsEntryOf fonts) entries → IsEntryOf fonts x
      → (if b then Err ListFull else Ok (x ∷ entries)) ≡ Ok more → All (IsEntryOf fonts) more
  full_or x entries more true h given is = absurd cc
  full_or x entries more false h given is =
      let same : x ∷ entries ≡ more = cc in rw (← same) (All-cons (IsEntryOf fonts) x entries given h)

  entries_put : (o : Option Entry) (entries more : List Entry) → All (IsEntryOf fonts) entries → IfSome o (IsEntryOf fonts)
      → with_entry_if o entries ≡ Ok more → All (IsEntryOf fonts) more
  entries_put None entries more h given is = let same : entries ≡ more = cc in rw (← same) h
  entries_put (Some x) entries more h given is = full_or x entries more (is_full (x ∷ entries)) h given is

  contents_then : (plan : BoxPlan) (r : Result (List Entry) ListFault) (more : Contents) → ((xs : List Entry) → r ≡ Ok xs → All (IsEntryOf fonts) xs)
      → (r >>= λ xs. Ok (Restricted plan xs)) ≡ Ok more → AreContentsOf fonts more
  contents_then plan (Ok xs) more given is = let same : Restricted plan xs ≡ more = cc in rw (← same) (given xs refl)
  contents_then plan (Err fault) more given is = absurd cc

  contents_put : (o : Option Entry) (c more : Contents) → AreContentsOf fonts c → IfSome o (IsEntryOf fonts)
      → put_into o c ≡ Ok more → AreContentsOf fonts more
  contents_put o (Restricted plan entries) more h given is =
      contents_then plan (with_entry_if o entries) more (λ xs e. entries_put o entries xs h given e) is

  list_then : (dir : Dir) (r : Result Contents ListFault) (more : OpenList) → ((c : Contents) → r ≡ Ok c → AreContentsOf fonts c)
      → (r >>= λ c. Ok (record { dir = dir; contents = c })) ≡ Ok more → IsListOf fonts more
  list_then dir (Ok c) more given is = let same : record { dir = dir; contents = c } ≡ more = cc in rw (← same) (given c refl)
  list_then dir (Err fault) more given is = absurd cc

  list_put : (entry : Dir → Option Entry) (l more : OpenList) → IsListOf fonts l → ((dir : Dir) → IfSome (entry dir) (IsEntryOf fonts))
      → put_in_list entry l ≡ Ok more → IsListOf fonts more
  list_put entry l more h given is =
      list_then l.dir (put_into (entry l.dir) l.contents) more (λ c e. contents_put (entry l.dir) l.contents c h (given l.dir) e) is

  first_then : (ls : List OpenList) (r : Result OpenList ListFault) (more : List OpenList) → All (IsListOf fonts) ls
      → ((l : OpenList) → r ≡ Ok l → IsListOf fonts l) → (r >>= λ l. Ok (l ∷ ls)) ≡ Ok more → All (IsListOf fonts) more
  first_then ls (Ok l) more h given is = let same : l ∷ ls ≡ more = cc in rw (← same) (All-cons (IsListOf fonts) l ls (given l refl) h)
  first_then ls (Err fault) more h given is = absurd cc

  first_put : (entry : Dir → Option Entry) (ls more : List OpenList) → All (IsListOf fonts) ls → ((dir : Dir) → IfSome (entry dir) (IsEntryOf fonts))
      → put_in_first entry ls ≡ Ok more → All (IsListOf fonts) more
  first_put entry [] more h given is = let same : [] ≡ more = cc in rw (← same) h
  first_put entry (l ∷ ls) more h given is =
      first_then ls (put_in_list entry l) more (All-tail (IsListOf fonts) l ls h)
      (λ m e. list_put entry l m (All-head (IsListOf fonts) l ls h) given e) is

  all_then : (main : Dir) (r : Result (List OpenList) ListFault) (more : OpenLists) → ((ls : List OpenList) → r ≡ Ok ls → All (IsListOf fonts) ls)
      → (r >>= λ ls. Ok (record { main = main; inner = ls })) ≡ Ok more → All (IsListOf fonts) more.inner
  all_then main (Ok ls) more given is = let same : record { main = main; inner = ls } ≡ more = cc in rw (← same) (given ls refl)
  all_then main (Err fault) more given is = absurd cc

pub put_of : (fonts : List Font) (entry : Dir → Option Entry) (lists more : OpenLists) → AreOf fonts lists
    → ((dir : Dir) → IfSome (entry dir) (IsEntryOf fonts)) → put entry lists ≡ Ok more → AreOf fonts more
unfolding AreOf
put_of fonts entry lists more h given is =
    all_then fonts lists.main (put_in_first entry lists.inner) more (λ ls e. first_put fonts entry lists.inner ls h given e) is

-- ---- a list that ends

-- what lower crates say
pub record Laws : Type 0 where
  pub cells : CellsHaveTheirMeasures
  pub come : FinishedGlyphsComeFromEntries
  pub packed : PackedIsItsNode

measured : (m : tfm.Metric) (code z : ℕ) → tfm.has_character m code ≡ true → tfm.measures_of m code z ≡ Some (size_of m code z)
measured m code z h = rw h refl

-- the code of a glyph is one of the font
code_there : (a : EuropeanCharacter) (code : ℕ) → HasItsLigatures a.metric → tfm.has_character a.metric a.code ≡ true → IsCodeOf a code
    → tfm.has_character a.metric code ≡ true
code_there a code whole there (inl same) = rw same there
code_there a code whole there (inr ligature) = whole.there ligature.0 a.code code ligature.1

module _ (laws : Laws) (fonts : List Font) (whole : AreWhole fonts) (e : List Entry) (given : All (IsEntryOf fonts) e) where
  letter_of_font : (font : FontNo) (code : ℕ) (size : Measures) → built.IsGlyphOf e font code size → IsGlyphOf fonts font code size
  letter_of_font font code size h =
      let a = h.letter in
      let x : IsEuropeanOf fonts a = All-contains (IsEntryOf fonts) e (European a) given h.among in
      let is_whole : HasItsLigatures a.metric = rw x.metric at (whole_at fonts a.font x.font whole x.there) in
      let there = code_there a code is_whole x.code h.code_is in
      record {
        font = x.font;
        there = rw h.font_is x.there;
        measures = rw (x.metric, x.size, h.size_is) (measured a.metric code a.z there);
      }

  kanji_of_font : (font : FontNo) (cell : Kuten) (size : Measures) → IsKanjiOf e font cell size → IsGlyphOf fonts font (number_of jis cell) size
  kanji_of_font font cell size h =
      let k = h.character in
      let x : IsJapaneseOf fonts k = All-contains (IsEntryOf fonts) e (Japanese k) given h.among in
      record {
        font = x.font;
        there = rw h.font_is x.there;
        measures = rw (x.metric, x.size, h.cell_is, h.size_is) (laws.cells k.metric k.z k.cell x.cell);
      }

  own_of_font : (x : Item) → IsOwnItem e x → IsItemOf fonts (tree_item x)
  own_of_font (items.Glyph font code size shift first last) h = letter_of_font font code size h
  own_of_font (items.Kanji font cell size kind) h = kanji_of_font font cell size h
  own_of_font (items.Box tree shift) h = absurd h
  own_of_font (items.Crossed tree shift seen) h = absurd h
  own_of_font (items.Rule wd ht dp) h = absurd h
  own_of_font (items.Glue g from) h = tt
  own_of_font (items.Kern width from) h = tt
  own_of_font (items.Penalty value auto) h = tt

  item_of_font : (x : Item) → ComesFrom e x → IsItemOf fonts (tree_item x)
  item_of_font x (inl there) = All-contains (IsEntryOf fonts) e (Other x) given there
  item_of_font x (inr own) = own_of_font x own

  items_of_font : (xs : List Item) → All (ComesFrom e) xs → AreItemsOf fonts (tree_items xs)
  items_of_font [] h = tt
  items_of_font (x ∷ xs) h =
      (item_of_font x (All-head (ComesFrom e) x xs h), items_of_font xs (All-tail (ComesFrom e) x xs h))

box_then : (fonts : List Font) (r : Result BoxTree PackFault) (plan : BoxPlan) (ended : EndedBox) → ((b : BoxTree) → r ≡ Ok b → IsBoxOf fonts b)
    → (r >>= λ b. Ok (record { node = b; context = plan.context })) ≡ Ok ended → IsBoxOf fonts ended.node
box_then fonts (Ok b) plan ended given is = let same : record { node = b; context = plan.context } ≡ ended = cc in rw (← same) (given b refl)
box_then fonts (Err fault) plan ended given is = absurd cc

packed_of : (laws : Laws) (fonts : List Font) (items : TreeItems) (dir : Dir) (plan : BoxPlan) (b : BoxTree) → AreItemsOf fonts items
    → hpacked items dir plan.size ≡ Ok b → IsBoxOf fonts b
packed_of laws fonts items dir plan b h is = rw (laws.packed _ dir _ _ items b is).1 h

contents_ended : Laws → (fonts : List Font) (codes : Codes) (dir : Dir) (c : Contents) (ended : EndedBox) → AreWhole fonts → AreContentsOf fonts c
    → box_of codes dir c ≡ Ok ended → IsBoxOf fonts ended.node
contents_ended laws fonts codes dir (Restricted plan entries) ended whole h is =
    let items = tree_items (finished_list codes false entries) in
    box_then fonts (hpacked items dir plan.size) plan ended
    (λ b e. packed_of laws fonts items dir plan b (items_of_font laws fonts whole entries h (finished_list codes false entries) (laws.come codes false entries)) e) is

first_ended : Laws → (fonts : List Font) (codes : Codes) (ls : List OpenList) (ended : EndedBox) → AreWhole fonts → All (IsListOf fonts) ls
    → box_of_first codes ls ≡ Ok ended → IsBoxOf fonts ended.node
first_ended laws fonts codes [] ended whole h is = absurd cc
first_ended laws fonts codes (l ∷ ls) ended whole h is = contents_ended laws fonts codes l.dir l.contents ended whole (All-head (IsListOf fonts) l ls h) is

pub box_ended : Laws → (fonts : List Font) (codes : Codes) (lists : OpenLists) (ended : EndedBox) → AreWhole fonts → AreOf fonts lists
    → hbox_ended codes lists ≡ Ok ended → IsBoxOf fonts ended.node
unfolding AreOf
box_ended laws fonts codes lists ended whole h is = first_ended laws fonts codes lists.inner ended whole h is
