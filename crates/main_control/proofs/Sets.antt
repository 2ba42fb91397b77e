-- What main control stands for after a step that ships nothing.
use Rattle.std.proofs.Common.{◌≡◌, ◌≢◌, ◌∙◌, List, [], ◌∷◌, Bool, true, false, cond, Option, Some, None, IsSome, Result, Ok, Err, refl, sym, ap, subst}
use Rattle.ts_base.specs.Agreement.{Cause, Determined, Counted, Free, ◌>>=◌, Agrees, AgreesFault}
use Rattle.ts_outside.specs.States.{FilesState}
use Rattle.mouth.specs.Reading.{Stop, at_place}
use Rattle.mouth.specs.Keeping.{AgreesAt, place_in, held_in}
use Rattle.jlist_builder.specs.Entries.{Entry}
use Rattle.expander.specs.Worlds.{World as Text}
use Rattle.open_lists.specs.declared.contents.KeptContents.{KeptContents}
use Rattle.open_lists.specs.declared.contents.KeptContents.TheVariants as kept
use Rattle.open_lists.specs.Kept.{KeptList, Kept}
use Rattle.open_lists.specs.Lists.{OpenLists, rest}
use Rattle.open_lists.specs.Standing.{contents_of, list_of, entries_of, first, inner_of, lists_of, AreListsOf, StandFor, entries_in_all, IsNow}
use Rattle.control_faults.specs.declared.turn_fault.TurnFault.{TurnFault}
use Rattle.control_faults.specs.declared.turn_fault.TurnFault.TheVariants as faults
use Rattle.control_faults.specs.TurnFaults.{read_cause}
use Rattle.control_faults.specs.declared.kind.FaultKind.TheVariants.{NotBuilt}
use Rattle.ts_outside.specs.States.{Held}
use Rattle.box_tree.specs.declared.item.FontNo.{FontNo}
use Rattle.font_store.specs.declared.fonts.Font.{Font}
use Rattle.assignments.specs.declared.command.Prefixes.{Prefixes}
use Rattle.assignments.specs.declared.command.Assignment.{Assignment}
use Rattle.assignments.specs.declared.command.Assignment.TheVariants as assignments
use Rattle.env_groups.specs.Environments.{Nest}
use Rattle.font_commands.specs.Fonts.{font_chosen, font_used}
use Rattle.assignments.specs.Worlds.{Outcome, stopped as fault_at, in_env, refused}
use Rattle.assignments.specs.Assignments.{carried_out}
use Rattle.main_control.specs.Fonts.{prepared_done}
use Rattle.main_control.specs.Lists.{is_in_hbox, in_hbox, spaced}
use Rattle.main_control.specs.Bodies.{Body}
use Rattle.main_control.specs.Worlds.{Scene, Acted, Quiet, scene, with_text, with_lists, in_scene, text_of, scene_of}
use Rattle.main_control.specs.Standing.{IsApart, Stands, Sets, entries_after}

-- ---- entries that lists have

entries_back : (c : KeptContents) (e : List Entry) → entries_of (contents_of c e) ≡ e
entries_back (kept.Restricted plan builder) e = refl

same_inner : (ks : List KeptList) (es : List (List Entry)) → inner_of ks (entries_in_all (inner_of ks es)) ≡ inner_of ks es
same_inner [] es = refl
same_inner (k ∷ ks) es = rw (entries_back k.contents (first es), same_inner ks (rest es)) refl

pub stand_back : (ks : List KeptList) (es : List (List Entry)) → AreListsOf ks es → AreListsOf ks (entries_in_all (inner_of ks es))
stand_back [] es stand = tt
stand_back (k ∷ ks) es stand = (rw (entries_back k.contents (first es)) stand.0, stand_back ks (rest es) stand.1)

-- The entries of what is kept are those of the lists for which it stands.
pub same_lists : (k : Kept) (es : List (List Entry)) → lists_of k (entries_in_all (inner_of k.inner es)) ≡ lists_of k es
same_lists k es = ap (λ (inner : List _). record { main = k.main; inner = inner }) (same_inner k.inner es)

-- ---- steps

module _ (b : Body) (state : FilesState) where
  pub stands_so : (entries : List (List Entry)) (given : Quiet) → given ≡ Ok (scene_of b state entries) → StandFor b.lists entries → Stands b state given
  stands_so entries given is stand =
      rw is (ap (λ (lists : OpenLists). Ok (scene (text_of b state) b.fonts lists)) (sym (same_lists b.lists entries)), stand_back b.lists.inner entries stand)

  pub sets_so : {X : Type 0} (x : X) (r : Result X TurnFault) (entries : List (List Entry)) (given : Quiet) → r ≡ Ok x → given ≡ Ok (scene_of b state entries) → StandFor b.lists entries → Sets b state r given
  sets_so x r entries given ok is stand = rw ok (stands_so entries given is stand)

-- Lists that are now so, with the rest as it is.
pub now_stands : (b : Body) (state : FilesState) (s : Scene) (lists : OpenLists) → s.text ≡ text_of b state → s.fonts ≡ b.fonts → IsNow b.lists lists → Stands b state (Ok (with_lists s lists))
now_stands b state s lists texts fonts now =
    (rw (texts, fonts) (ap (λ (l : OpenLists). Ok (scene (text_of b state) b.fonts l)) now.are), now.stands)

-- A fault of the first part is that of the whole.
pub later_ends : {X Y E : Type 0} (cause : Cause) (e : E) (r : Result X E) (k : X → Result Y E) → AgreesFault cause e r → AgreesFault cause e (r >>= k)
later_ends Determined e r k agrees = rw agrees refl
later_ends Counted e r k agrees = tt
later_ends Free e r k agrees = tt

module _ (old new : Body) (before after : FilesState) (entries : List (List Entry)) where
  -- A step of what is read and the environments alone is one of the scene.
  pub text_stands : (acted : Acted) → acted ≡ Ok (text_of new after) → IsApart old new → StandFor old.lists entries → Stands new after (in_scene (scene_of old before entries) acted)
  text_stands acted is apart stand =
      stands_so new after entries (in_scene (scene_of old before entries) acted) (rw is (rw (apart.fonts, apart.lists) refl)) (rw apart.lists stand)

  pub text_sets : {X : Type 0} (r : Result X TurnFault) (acted : Acted) → AgreesAt (λ _. text_of new after) read_cause new.gullet r acted → IsApart old new → StandFor old.lists entries
      → Sets new after r (in_scene (scene_of old before entries) acted)
  text_sets (Ok x) acted agrees apart stand = text_stands acted agrees apart stand
  text_sets (Err e) acted agrees apart stand =
      later_ends (read_cause e) (at_place (place_in new.gullet) e) acted (λ w. Ok (with_text (scene_of old before entries) w)) agrees

-- ---- a list of an \hbox

inside_is : (does : Scene → Quiet) (s : Scene) → true ≡ is_in_hbox s → in_hbox does s ≡ does s
inside_is does s is = rw (← is) refl

pub inside_sets : {X : Type 0} (b : Body) (state : FilesState) (r : Result X TurnFault) (does : Scene → Quiet) (s : Scene) → true ≡ is_in_hbox s → Sets b state r (does s) → Sets b state r (in_hbox does s)
inside_sets b state r does s is sets = subst (λ (q : Quiet). Sets b state r q) (sym (inside_is does s is)) sets

pub outside_is : (does : Scene → Quiet) (s : Scene) → false ≡ is_in_hbox s → in_hbox does s ≡ Err (refused NotBuilt s.text)
outside_is does s is = rw (← is) refl

pub space_stands : (b : Body) (state : FilesState) (entries : List (List Entry)) → false ≡ is_in_hbox (scene_of b state entries) → StandFor b.lists entries → Stands b state (spaced (scene_of b state entries))
space_stands b state entries is stand = stands_so b state entries (spaced (scene_of b state entries)) (rw (← is) refl) stand

-- ---- fonts

module _ (old new : Body) (before after : FilesState) (entries : List (List Entry)) where
  pub font_sets : {X : Type 0} (r : Result X TurnFault) (given : Outcome (List Font × Text)) → AgreesAt (λ _. (new.fonts, text_of new after)) read_cause new.gullet r given → new.lists ≡ old.lists → StandFor old.lists entries
      → Sets new after r (given >>= λ f. Ok (scene f.1 f.0 (lists_of old.lists entries)))
  font_sets (Ok x) given agrees lists stand =
      stands_so new after entries (given >>= λ f. Ok (scene f.1 f.0 (lists_of old.lists entries))) (rw agrees (rw lists refl)) (rw lists stand)
  font_sets (Err e) given agrees lists stand =
      later_ends (read_cause e) (at_place (place_in new.gullet) e) given (λ f. Ok (scene f.1 f.0 (lists_of old.lists entries))) agrees

-- An assignment that is neither a font nor its name is one of those below.
pub rest_done : (p : Prefixes) (a : Assignment) (s : Scene) → a ≢ assignments.LoadFont → ((font : FontNo) → a ≢ assignments.SelectFont font) → prepared_done p a s ≡ in_scene s (carried_out p a s.text)
unfolding prepared_done
rest_done p assignments.LoadFont s no_load no_font = absurd (no_load refl)
rest_done p (assignments.SelectFont font) s no_load no_font = absurd (no_font font refl)
rest_done p (assignments.Set target) s no_load no_font = refl
rest_done p assignments.DeadCycles s no_load no_font = refl
rest_done p (assignments.Switch param on) s no_load no_font = refl
rest_done p (assignments.Calculate operation) s no_load no_font = refl
rest_done p assignments.Let s no_load no_font = refl
rest_done p (assignments.Shorthand shorthand) s no_load no_font = refl
rest_done p (assignments.Define defining) s no_load no_font = refl
rest_done p assignments.SetBox s no_load no_font = refl
rest_done p (assignments.Measure side) s no_load no_font = refl

-- what tells what is held
pub some_held : (o : Option (List Held)) → IsSome o → o ≡ Some (held_in o)
some_held None is = let never : ⊥ = cc in absurd never
some_held (Some held) is = refl

-- A fault of what is made of the environment has the place of what is read.
env_ends : (cause : Cause) (e : TurnFault) (w : Text) (call : Result Nest TurnFault) → AgreesFault cause e call → AgreesFault cause (fault_at w e) (in_env w call)
env_ends Determined e w call agrees = rw agrees refl
env_ends Counted e w call agrees = tt
env_ends Free e w call agrees = tt

pub used_sets : {X : Type 0} (old new : Body) (state : FilesState) (entries : List (List Entry)) (r : Result X TurnFault) (font : FontNo) (is_global : Bool)
    → Agrees (λ _. new.nest) read_cause r (font_chosen font is_global old.fonts old.nest) → new.gullet ≡ old.gullet → IsApart old new → StandFor old.lists entries
    → Sets new state r (in_scene (scene_of old state entries) (font_used font is_global old.fonts (text_of old state)))
unfolding font_used
used_sets old new state entries (Ok x) font is_global agrees gullet apart stand =
    text_stands old new state state entries (in_env (text_of old state) (font_chosen font is_global old.fonts old.nest)) (rw (agrees, gullet) refl) apart stand
used_sets old new state entries (Err e) font is_global agrees gullet apart stand =
    rw gullet (later_ends (read_cause e) (fault_at (text_of old state) e) (in_env (text_of old state) (font_chosen font is_global old.fonts old.nest)) (λ w. Ok (with_text (scene_of old state entries) w))
    (env_ends (read_cause e) e (text_of old state) (font_chosen font is_global old.fonts old.nest) agrees))
