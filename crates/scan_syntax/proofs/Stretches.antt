-- Steps of glue.
use Rattle.std.proofs.Common.{◌≡◌, ℕ, ℤ, ◌+◌, ◌<◌, Bool, true, false, not, List, [], ◌∷◌, ◌++◌, length, drop, get_or, Result, Ok, Err, refl, ap, ◌∙◌}
use Rattle.ts_geometry.specs.declared.glue.Glue.{Glue}
use Rattle.ts_geometry.specs.Directions.{sp}
use Rattle.box_tree.specs.declared.node.BoxSize.TheVariants.{Natural, To, Spread}
use Rattle.scan_syntax.specs.declared.want.Value.{Value}
use Rattle.scan_syntax.specs.declared.want.Value.TheVariants as values
use Rattle.scan_syntax.specs.Values.{glue_value, size_value}
use Rattle.scan_syntax.specs.BoxSizes.{box_size}
use Rattle.scan_numbers.specs.Contexts.{Context}
use Rattle.tok_lists.specs.declared.token.Token.{Token}
use Rattle.scan_numbers.specs.declared.number.Length.{Length}
use Rattle.scan_numbers.specs.declared.amount.Amount.{Amount}
use Rattle.scan_numbers.specs.Amounts.{Amount as TheAmount}
use Rattle.scan_numbers.specs.declared.quantity.Quantity.{Quantity}
use Rattle.scan_numbers.specs.declared.quantity.Quantity.TheVariants as quantities
use Rattle.scan_numbers.specs.declared.quantity.HeldGlue.{HeldGlue}
use Rattle.scan_numbers.specs.declared.quantity.Register.{Register}
use Rattle.scan_numbers.specs.declared.integer.Integer.{Integer}
use Rattle.scan_numbers.specs.declared.start.Start.{Start}
use Rattle.scan_numbers.specs.declared.start.Start.TheVariants as starts
use Rattle.scan_numbers.specs.Quantities.{reading}
use Rattle.scan_numbers.specs.Integers.{integer}
use Rattle.scan_numbers.proofs.Follows.{read_ok, read_err}
use Rattle.scan_numbers.specs.declared.dimen.Dimen.{Dimen}
use Rattle.scan_syntax.specs.declared.keyword.Keyword.{Keyword}
use Rattle.scan_numbers.specs.declared.fault.ScanFault.{ScanFault}
use Rattle.scan_numbers.specs.declared.fault.ScanFault.TheVariants.{Kind, NoMemory}
use Rattle.scan_numbers.specs.declared.fault.ScanKind.{ScanKind}
use Rattle.scan_syntax.specs.declared.gluing.Late.{Late}
use Rattle.scan_syntax.specs.declared.gluing.Late.TheVariants as lates
use Rattle.scan_syntax.specs.declared.gluing.Gluing.{Gluing}
use Rattle.scan_syntax.specs.declared.gluing.Gluing.TheVariants as gluings
use Rattle.scan_syntax.specs.declared.gluing.GlueMove.{GlueMove}
use Rattle.scan_syntax.specs.declared.gluing.GlueMove.TheVariants.{On, Done}
use Rattle.std.proofs.lemmas.List.{drop_more}
use Rattle.scan_syntax.specs.declared.word.Sought.TheVariants as soughts
use Rattle.scan_numbers.specs.Tokens.{FedToken, fed, put_back, not_taken, start}
use Rattle.scan_numbers.specs.Answers.{Answer, Got, Bad, ◌>>=◌}
use Rattle.scan_numbers.specs.Keywords.{keyword}
use Rattle.scan_syntax.specs.Words.{letters_of}
use Rattle.scan_numbers.specs.Dimensions.{dimen, dimen_signed, from_quantity, with_sign}
use Rattle.scan_numbers.specs.Machines.{Follows, FormIs, value_of, amount_of, integer_left, quantity_left, whole, left_of, dimen_left}
use Rattle.scan_syntax.specs.Attempts.{Attempts, keyword_left}
use Rattle.scan_syntax.specs.Glues.{glue_of, glue, nothing, stretch, signed_glue, glue_signed, glue_from, quantity_glue}
use Rattle.scan_syntax.specs.Gluing.{GlueMoves, late_left, glue_left, quantity_glue_left, then_stretch, is_number, begins_width}
use Rattle.scan_syntax.proofs.Attempts.{keyword_needs}

-- ---- after the stretch

pub minus_on : (w : Length) (s : Amount) (k j : Keyword) (x : FedToken) (rest : List FedToken) → keyword_left k (x ∷ rest) ≡ keyword_left j rest
    → late_left (lates.Minus w s k) (x ∷ rest) ≡ late_left (lates.Minus w s j) rest
unfolding late_left
minus_on w s k j x rest step = rw step refl

pub minus_there : (w : Length) (s : Amount) (k : Keyword) (d : Dimen) (x : FedToken) (rest : List FedToken) → keyword_left k (x ∷ rest) ≡ Got true x.context rest
    → ((list : List FedToken) → dimen_left d list ≡ dimen true list)
    → late_left (lates.Minus w s k) (x ∷ rest) ≡ late_left (lates.Shrink w s d) rest
unfolding late_left
minus_there w s k d x rest step fresh = rw (step, fresh rest) refl

pub minus_not : (w : Length) (s : Amount) (k : Keyword) (g : Glue) (back : List Token) (x : FedToken) (rest : List FedToken) → keyword_left k (x ∷ rest) ≡ Got false x.context (put_back x.context back ++ rest)
    → g ≡ glue_of w.value (amount_of s) nothing
    → late_left (lates.Minus w s k) (x ∷ rest) ≡ Got (values.Glue g) x.context (put_back x.context back ++ rest)
unfolding late_left
minus_not w s k g back x rest step is = rw (step, is) refl

pub shrink_on : (w : Length) (s : Amount) (d e : Dimen) (x : FedToken) (rest : List FedToken) → dimen_left d (x ∷ rest) ≡ dimen_left e rest
    → late_left (lates.Shrink w s d) (x ∷ rest) ≡ late_left (lates.Shrink w s e) rest
unfolding late_left
shrink_on w s d e x rest step = rw step refl

pub shrink_done : (w : Length) (s : Amount) (d : Dimen) (k : TheAmount) (taken : Bool) (g : Glue) (back : List Token) (token : Token) (context : Context) (rest : List FedToken)
    → dimen_left d (fed token context ∷ rest) ≡ whole k taken (fed token context) rest → back ≡ not_taken taken token → g ≡ glue_of w.value (amount_of s) k
    → late_left (lates.Shrink w s d) (fed token context ∷ rest) ≡ Got (values.Glue g) context (put_back context back ++ rest)
unfolding late_left
shrink_done w s d k true g back token context rest step is same = rw (step, is, same) refl
shrink_done w s d k false g back token context rest step is same = rw (step, is, same) refl

keyword_never : (k : Keyword) (x : FedToken) (context : Context) (before : List FedToken → Answer Value) (fault : ScanFault) → Attempts x (keyword_left k) (Err fault)
    → GlueMoves late_left context (x ∷ []) before (Err fault)
keyword_never k x context before (Kind kind) never = absurd never
keyword_never k x context before NoMemory never = tt

pub minus_fault : (w : Length) (s : Amount) (k : Keyword) (x : FedToken) (context : Context) (fault : ScanFault) → Attempts x (keyword_left k) (Err fault)
    → GlueMoves late_left context (x ∷ []) (late_left (lates.Minus w s k)) (Err fault)
minus_fault w s k x context fault follows = keyword_never k x context (late_left (lates.Minus w s k)) fault follows

shrink_bad : (w : Length) (s : Amount) (d : Dimen) (kind : ScanKind) (x : FedToken) (rest : List FedToken) → dimen_left d (x ∷ rest) ≡ Bad kind → late_left (lates.Shrink w s d) (x ∷ rest) ≡ Bad kind
unfolding late_left
shrink_bad w s d kind x rest step = rw step refl

pub shrink_fault : (w : Length) (s : Amount) (d : Dimen) (x : FedToken) (context : Context) (fault : ScanFault) → Follows amount_of dimen_left x (dimen_left d) (Err fault)
    → GlueMoves late_left context (x ∷ []) (late_left (lates.Shrink w s d)) (Err fault)
shrink_fault w s d x context (Kind kind) follows = λ rest. shrink_bad w s d kind x rest (follows rest)
shrink_fault w s d x context NoMemory follows = tt

pub spread_on : (k j : Keyword) (x : FedToken) (rest : List FedToken) → keyword_left k (x ∷ rest) ≡ keyword_left j rest
    → late_left (lates.Spread k) (x ∷ rest) ≡ late_left (lates.Spread j) rest
unfolding late_left
spread_on k j x rest step = rw step refl

pub spread_there : (k : Keyword) (d : Dimen) (x : FedToken) (rest : List FedToken) → keyword_left k (x ∷ rest) ≡ Got true x.context rest
    → ((list : List FedToken) → dimen_left d list ≡ dimen false list)
    → late_left (lates.Spread k) (x ∷ rest) ≡ late_left (lates.SpreadSize d) rest
unfolding late_left
spread_there k d x rest step fresh = rw (step, fresh rest) refl

pub spread_not : (k : Keyword) (back : List Token) (x : FedToken) (rest : List FedToken) → keyword_left k (x ∷ rest) ≡ Got false x.context (put_back x.context back ++ rest)
    → late_left (lates.Spread k) (x ∷ rest) ≡ Got (values.BoxSize Natural) x.context (put_back x.context back ++ rest)
unfolding late_left
spread_not k back x rest step = rw step refl

pub spread_size_on : (d e : Dimen) (x : FedToken) (rest : List FedToken) → dimen_left d (x ∷ rest) ≡ dimen_left e rest
    → late_left (lates.SpreadSize d) (x ∷ rest) ≡ late_left (lates.SpreadSize e) rest
unfolding late_left
spread_size_on d e x rest step = rw step refl

pub spread_size_done : (d : Dimen) (k : TheAmount) (taken : Bool) (back : List Token) (token : Token) (context : Context) (rest : List FedToken)
    → dimen_left d (fed token context ∷ rest) ≡ whole k taken (fed token context) rest → back ≡ not_taken taken token
    → late_left (lates.SpreadSize d) (fed token context ∷ rest) ≡ Got (values.BoxSize (Spread (sp k.size))) context (put_back context back ++ rest)
unfolding late_left
spread_size_done d k true back token context rest step is = rw (step, is) refl
spread_size_done d k false back token context rest step is = rw (step, is) refl

pub spread_fault : (k : Keyword) (x : FedToken) (context : Context) (fault : ScanFault) → Attempts x (keyword_left k) (Err fault)
    → GlueMoves late_left context (x ∷ []) (late_left (lates.Spread k)) (Err fault)
spread_fault k x context fault follows = keyword_never k x context (late_left (lates.Spread k)) fault follows

spread_size_bad : (d : Dimen) (kind : ScanKind) (x : FedToken) (rest : List FedToken) → dimen_left d (x ∷ rest) ≡ Bad kind → late_left (lates.SpreadSize d) (x ∷ rest) ≡ Bad kind
unfolding late_left
spread_size_bad d kind x rest step = rw step refl

pub spread_size_fault : (d : Dimen) (x : FedToken) (context : Context) (fault : ScanFault) → Follows amount_of dimen_left x (dimen_left d) (Err fault)
    → GlueMoves late_left context (x ∷ []) (late_left (lates.SpreadSize d)) (Err fault)
spread_size_fault d x context (Kind kind) follows = λ rest. spread_size_bad d kind x rest (follows rest)
spread_size_fault d x context NoMemory follows = tt

pub ruleset lates_fed = (spread_on, spread_there, spread_not, minus_on, minus_there, minus_not, shrink_on, shrink_done)

-- ---- a fresh glue, and the form of the next token

pub fresh : (list : List FedToken) → glue_left (gluings.Signs false) list ≡ glue list >>= glue_value
unfolding glue_left
fresh list = refl

pub fresh_size : (k : Keyword) (list : List FedToken) → ((more : List FedToken) → keyword_left k more ≡ keyword (letters_of soughts.To) more)
    → glue_left (gluings.To k) list ≡ box_size list >>= size_value
unfolding glue_left box_size
fresh_size k list same = rw (same list) refl

pub signs_form : (g : Gluing) (b : Bool) → g ≡ gluings.Signs b → FormIs false (glue_left g)
unfolding glue_left glue_signed
signs_form g b is = rw is refl

pub register_form : (g : Gluing) (b : Bool) (r : Register) (i : Integer) (raw : Bool) → g ≡ gluings.Register b r i → FormIs raw (integer_left i) → FormIs raw (glue_left g)
unfolding glue_left
register_form g b r i true is form = rw (is, form) refl
register_form g b r i false is form = rw (is, form) refl

pub width_form : (g : Gluing) (d : Dimen) (b : Bool) → g ≡ gluings.Width d → FormIs b (dimen_left d) → FormIs b (glue_left g)
unfolding glue_left
width_form g d true is form = rw (is, form) refl
width_form g d false is form = rw (is, form) refl

pub stretch_form : (g : Gluing) (w : Length) (d : Dimen) (b : Bool) → g ≡ gluings.Stretch w d → FormIs b (dimen_left d) → FormIs b (glue_left g)
unfolding glue_left
stretch_form g w d true is form = rw (is, form) refl
stretch_form g w d false is form = rw (is, form) refl

pub shrink_form : (g : Gluing) (w : Length) (s : Amount) (d : Dimen) (b : Bool) → g ≡ gluings.Late (lates.Shrink w s d) → FormIs b (dimen_left d) → FormIs b (glue_left g)
unfolding glue_left late_left
shrink_form g w s d true is form = rw (is, form) refl
shrink_form g w s d false is form = rw (is, form) refl

pub plus_form : (g : Gluing) (w : Length) (k : Keyword) → g ≡ gluings.Plus w k → FormIs false (glue_left g)
unfolding glue_left
plus_form g w k is = rw (is, keyword_needs k) refl

pub minus_form : (g : Gluing) (w : Length) (s : Amount) (k : Keyword) → g ≡ gluings.Late (lates.Minus w s k) → FormIs false (glue_left g)
unfolding glue_left late_left
minus_form g w s k is = rw (is, keyword_needs k) refl

pub to_form : (g : Gluing) (k : Keyword) → g ≡ gluings.To k → FormIs false (glue_left g)
unfolding glue_left
to_form g k is = rw (is, keyword_needs k) refl

pub to_size_form : (g : Gluing) (d : Dimen) (b : Bool) → g ≡ gluings.ToSize d → FormIs b (dimen_left d) → FormIs b (glue_left g)
unfolding glue_left
to_size_form g d true is form = rw (is, form) refl
to_size_form g d false is form = rw (is, form) refl

pub spread_form : (g : Gluing) (k : Keyword) → g ≡ gluings.Late (lates.Spread k) → FormIs false (glue_left g)
unfolding glue_left late_left
spread_form g k is = rw (is, keyword_needs k) refl

pub spread_size_form : (g : Gluing) (d : Dimen) (b : Bool) → g ≡ gluings.Late (lates.SpreadSize d) → FormIs b (dimen_left d) → FormIs b (glue_left g)
unfolding glue_left late_left
spread_size_form g d true is form = rw (is, form) refl
spread_size_form g d false is form = rw (is, form) refl

pub ruleset forms = (to_form, to_size_form, spread_form, spread_size_form, signs_form, register_form, width_form, stretch_form, shrink_form, plus_form, minus_form)

-- ---- the parts of a glue

pub late_is : (l : Late) (list : List FedToken) → glue_left (gluings.Late l) list ≡ late_left l list
unfolding glue_left
late_is l list = refl

-- ---- signs and beginnings

pub begin_space : (b : Bool) (token : Token) (context : Context) (rest : List FedToken) → start token context ≡ starts.Space
    → glue_left (gluings.Signs b) (fed token context ∷ rest) ≡ glue_left (gluings.Signs b) rest
unfolding glue_left glue_signed
begin_space b token context rest is = rw is refl

pub begin_plus : (b : Bool) (token : Token) (context : Context) (rest : List FedToken) → start token context ≡ starts.Plus
    → glue_left (gluings.Signs b) (fed token context ∷ rest) ≡ glue_left (gluings.Signs b) rest
unfolding glue_left glue_signed
begin_plus b token context rest is = rw is refl

pub begin_minus : (b : Bool) (token : Token) (context : Context) (rest : List FedToken) → start token context ≡ starts.Minus
    → glue_left (gluings.Signs b) (fed token context ∷ rest) ≡ glue_left (gluings.Signs (not b)) rest
unfolding glue_left glue_signed
begin_minus b token context rest is = rw is refl

pub begin_internal : (b : Bool) (q : Quantity) (token : Token) (context : Context) (rest : List FedToken) → start token context ≡ starts.Internal q
    → glue_left (gluings.Signs b) (fed token context ∷ rest) ≡ quantity_glue_left b q context true (fed token context ∷ rest)
unfolding glue_left glue_signed quantity_glue_left
begin_internal b q token context rest is = rw is refl

pub begin_register : (b : Bool) (r : Register) (i : Integer) (token : Token) (context : Context) (rest : List FedToken) → start token context ≡ starts.Register r
    → ((list : List FedToken) → integer_left i list ≡ integer list)
    → glue_left (gluings.Signs b) (fed token context ∷ rest) ≡ glue_left (gluings.Register b r i) rest
unfolding glue_left glue_signed
begin_register b r i token context rest is fresh = rw (is, fresh rest) refl

pub ruleset begun = (begin_space, begin_plus, begin_minus, begin_register)

false_is_not_true : false ≡ true → ⊥
false_is_not_true e = cc

width_by_start : (s : Start) (b : Bool) (x : FedToken) (rest : List FedToken) (same turned : Answer Glue) → begins_width s ≡ true
    → glue_from s b x rest same turned ≡ dimen false (x ∷ rest) >>= with_sign b >>= stretch
width_by_start starts.Digit b x rest same turned is = refl
width_by_start starts.Octal b x rest same turned is = refl
width_by_start starts.Hexadecimal b x rest same turned is = refl
width_by_start starts.Backquote b x rest same turned is = refl
width_by_start starts.Point b x rest same turned is = refl
width_by_start (starts.Refused kind) b x rest same turned is = refl
width_by_start starts.Other b x rest same turned is = refl
width_by_start starts.Space b x rest same turned is = absurd (false_is_not_true is)
width_by_start starts.Plus b x rest same turned is = absurd (false_is_not_true is)
width_by_start starts.Minus b x rest same turned is = absurd (false_is_not_true is)
width_by_start (starts.Internal q) b x rest same turned is = absurd (false_is_not_true is)
width_by_start (starts.Register r) b x rest same turned is = absurd (false_is_not_true is)

pub begin_width : (b : Bool) (d : Dimen) (token : Token) (context : Context) (rest : List FedToken) → begins_width (start token context) ≡ true
    → ((list : List FedToken) → dimen_left d list ≡ dimen_signed b list)
    → glue_left (gluings.Signs b) (fed token context ∷ rest) ≡ glue_left (gluings.Width d) (fed token context ∷ rest)
unfolding glue_left glue_signed
begin_width b d token context rest is fresh = rw (width_by_start (start token context) b (fed token context) rest (glue_signed b rest) (glue_signed (not b) rest) is, fresh (fed token context ∷ rest)) refl

-- ---- registers and quantities

pub register_on : (b : Bool) (r : Register) (i j : Integer) (x : FedToken) (rest : List FedToken) → integer_left i (x ∷ rest) ≡ integer_left j rest
    → glue_left (gluings.Register b r i) (x ∷ rest) ≡ glue_left (gluings.Register b r j) rest
unfolding glue_left
register_on b r i j x rest step = rw step refl

pub register_done : (b : Bool) (r : Register) (i : Integer) (n : ℤ) (taken : Bool) (q : Quantity) (token : Token) (context : Context) (rest : List FedToken)
    → integer_left i (fed token context ∷ rest) ≡ whole n taken (fed token context) rest
    → Ok q ≡ reading r n context.env
    → glue_left (gluings.Register b r i) (fed token context ∷ rest) ≡ quantity_glue_left b q context taken (fed token context ∷ rest)
unfolding glue_left quantity_glue_left
register_done b r i n taken q token context rest step held = rw (step, read_ok r n q context (left_of taken (fed token context ∷ rest)) held) refl

pub register_range : (b : Bool) (r : Register) (i : Integer) (n : ℤ) (taken : Bool) (kind : ScanKind) (token : Token) (context : Context) (rest : List FedToken)
    → integer_left i (fed token context ∷ rest) ≡ whole n taken (fed token context) rest
    → Err kind ≡ reading r n context.env
    → glue_left (gluings.Register b r i) (fed token context ∷ rest) ≡ Bad kind
unfolding glue_left
register_range b r i n taken kind token context rest step held = rw (step, read_err r n kind context (left_of taken (fed token context ∷ rest)) held) refl

register_bad : (b : Bool) (r : Register) (i : Integer) (kind : ScanKind) (x : FedToken) (rest : List FedToken) → integer_left i (x ∷ rest) ≡ Bad kind
    → glue_left (gluings.Register b r i) (x ∷ rest) ≡ Bad kind
unfolding glue_left
register_bad b r i kind x rest step = rw step refl

pub register_fault : (b : Bool) (r : Register) (i : Integer) (x : FedToken) (context : Context) (fault : ScanFault) → Follows value_of integer_left x (integer_left i) (Err fault)
    → GlueMoves glue_left context (x ∷ []) (glue_left (gluings.Register b r i)) (Err fault)
register_fault b r i x context (Kind kind) follows = λ rest. register_bad b r i kind x rest (follows rest)
register_fault b r i x context NoMemory follows = tt

pub quantity_whole : (b : Bool) (q : Quantity) (h : HeldGlue) (g : Glue) (taken : Bool) (back : List Token) (token : Token) (context : Context) (rest : List FedToken) → q ≡ quantities.Glue h
    → back ≡ not_taken taken token → g ≡ signed_glue b h
    → quantity_glue_left b q context taken (fed token context ∷ rest) ≡ Got (values.Glue g) context (put_back context back ++ rest)
unfolding quantity_glue_left
quantity_whole b q h g true back token context rest is none same = rw (is, none, same) refl
quantity_whole b q h g false back token context rest is none same = rw (is, none, same) refl

quantity_by : (b : Bool) (q : Quantity) (context : Context) (rest : List FedToken) → is_number q ≡ true
    → quantity_glue b q context rest ≡ from_quantity false q context rest >>= with_sign b >>= stretch
quantity_by b (quantities.Integer n) context rest is = refl
quantity_by b (quantities.Dimen d) context rest is = refl
quantity_by b (quantities.Glue g) context rest is = absurd (false_is_not_true is)

pub quantity_then : (b : Bool) (q : Quantity) (taken : Bool) (context : Context) (list : List FedToken) → is_number q ≡ true
    → quantity_glue_left b q context taken list ≡ then_stretch (quantity_left (record { negative = b; infinite = false }) q context taken) list
unfolding quantity_glue_left then_stretch quantity_left
quantity_then b q taken context list is = rw (quantity_by b q context (left_of taken list) is) refl

-- ---- the width

pub width_then : (d : Dimen) (list : List FedToken) → glue_left (gluings.Width d) list ≡ then_stretch (dimen_left d) list
unfolding glue_left then_stretch
width_then d list = refl

pub width_on : (before : List FedToken → Answer TheAmount) (e : Dimen) (x : FedToken) (rest : List FedToken) → before (x ∷ rest) ≡ dimen_left e rest → then_stretch before (x ∷ rest) ≡ glue_left (gluings.Width e) rest
unfolding glue_left then_stretch
width_on before e x rest step = rw step refl

width_bad : (before : List FedToken → Answer TheAmount) (kind : ScanKind) (x : FedToken) (rest : List FedToken) → before (x ∷ rest) ≡ Bad kind → then_stretch before (x ∷ rest) ≡ Bad kind
unfolding then_stretch
width_bad before kind x rest step = rw step refl

pub width_done : (before : List FedToken → Answer TheAmount) (a : Amount) (k : Keyword) (taken : Bool) (x : FedToken) (rest : List FedToken) → before (x ∷ rest) ≡ whole (amount_of a) taken x rest
    → ((list : List FedToken) → keyword_left k list ≡ keyword (letters_of soughts.Plus) list)
    → then_stretch before (x ∷ rest) ≡ glue_left (gluings.Plus a.size k) (left_of taken (x ∷ rest))
unfolding glue_left then_stretch
width_done before a k taken x rest step fresh = rw (step, fresh (left_of taken (x ∷ rest))) refl

pub width_fault : (before : List FedToken → Answer TheAmount) (x : FedToken) (context : Context) (fault : ScanFault) → Follows amount_of dimen_left x before (Err fault)
    → GlueMoves glue_left context (x ∷ []) (then_stretch before) (Err fault)
width_fault before x context (Kind kind) follows = λ rest. width_bad before kind x rest (follows rest)
width_fault before x context NoMemory follows = tt

-- ---- plus and minus

pub plus_on : (w : Length) (k j : Keyword) (x : FedToken) (rest : List FedToken) → keyword_left k (x ∷ rest) ≡ keyword_left j rest
    → glue_left (gluings.Plus w k) (x ∷ rest) ≡ glue_left (gluings.Plus w j) rest
unfolding glue_left
plus_on w k j x rest step = rw step refl

pub plus_there : (w : Length) (k : Keyword) (d : Dimen) (x : FedToken) (rest : List FedToken) → keyword_left k (x ∷ rest) ≡ Got true x.context rest
    → ((list : List FedToken) → dimen_left d list ≡ dimen true list)
    → glue_left (gluings.Plus w k) (x ∷ rest) ≡ glue_left (gluings.Stretch w d) rest
unfolding glue_left
plus_there w k d x rest step fresh = rw (step, fresh rest) refl

pub plus_not : (w : Length) (z : Amount) (k j : Keyword) (back : List Token) (x : FedToken) (rest : List FedToken) → keyword_left k (x ∷ rest) ≡ Got false x.context (put_back x.context back ++ rest)
    → amount_of z ≡ nothing → ((list : List FedToken) → keyword_left j list ≡ keyword (letters_of soughts.Minus) list)
    → glue_left (gluings.Plus w k) (x ∷ rest) ≡ late_left (lates.Minus w z j) (put_back x.context back ++ rest)
unfolding glue_left late_left
plus_not w z k j back x rest step none fresh = rw (step, none, fresh (put_back x.context back ++ rest)) refl

pub stretch_on : (w : Length) (d e : Dimen) (x : FedToken) (rest : List FedToken) → dimen_left d (x ∷ rest) ≡ dimen_left e rest → glue_left (gluings.Stretch w d) (x ∷ rest) ≡ glue_left (gluings.Stretch w e) rest
unfolding glue_left
stretch_on w d e x rest step = rw step refl

pub stretch_bad : (w : Length) (d : Dimen) (kind : ScanKind) (x : FedToken) (rest : List FedToken) → dimen_left d (x ∷ rest) ≡ Bad kind → glue_left (gluings.Stretch w d) (x ∷ rest) ≡ Bad kind
unfolding glue_left
stretch_bad w d kind x rest step = rw step refl

pub stretch_done : (w : Length) (s : Amount) (d : Dimen) (j : Keyword) (taken : Bool) (x : FedToken) (rest : List FedToken) → dimen_left d (x ∷ rest) ≡ whole (amount_of s) taken x rest
    → ((list : List FedToken) → keyword_left j list ≡ keyword (letters_of soughts.Minus) list)
    → glue_left (gluings.Stretch w d) (x ∷ rest) ≡ late_left (lates.Minus w s j) (left_of taken (x ∷ rest))
unfolding glue_left late_left
stretch_done w s d j taken x rest step fresh = rw (step, fresh (left_of taken (x ∷ rest))) refl

-- ---- the sizes of boxes

pub to_on : (k j : Keyword) (x : FedToken) (rest : List FedToken) → keyword_left k (x ∷ rest) ≡ keyword_left j rest
    → glue_left (gluings.To k) (x ∷ rest) ≡ glue_left (gluings.To j) rest
unfolding glue_left
to_on k j x rest step = rw step refl

pub to_there : (k : Keyword) (d : Dimen) (x : FedToken) (rest : List FedToken) → keyword_left k (x ∷ rest) ≡ Got true x.context rest
    → ((list : List FedToken) → dimen_left d list ≡ dimen false list)
    → glue_left (gluings.To k) (x ∷ rest) ≡ glue_left (gluings.ToSize d) rest
unfolding glue_left
to_there k d x rest step fresh = rw (step, fresh rest) refl

pub to_not : (k j : Keyword) (back : List Token) (x : FedToken) (rest : List FedToken) → keyword_left k (x ∷ rest) ≡ Got false x.context (put_back x.context back ++ rest)
    → ((list : List FedToken) → keyword_left j list ≡ keyword (letters_of soughts.Spread) list)
    → glue_left (gluings.To k) (x ∷ rest) ≡ late_left (lates.Spread j) (put_back x.context back ++ rest)
unfolding glue_left late_left
to_not k j back x rest step fresh = rw (step, fresh (put_back x.context back ++ rest)) refl

pub to_size_on : (d e : Dimen) (x : FedToken) (rest : List FedToken) → dimen_left d (x ∷ rest) ≡ dimen_left e rest
    → glue_left (gluings.ToSize d) (x ∷ rest) ≡ glue_left (gluings.ToSize e) rest
unfolding glue_left
to_size_on d e x rest step = rw step refl

pub to_size_done : (d : Dimen) (k : TheAmount) (taken : Bool) (back : List Token) (token : Token) (context : Context) (rest : List FedToken)
    → dimen_left d (fed token context ∷ rest) ≡ whole k taken (fed token context) rest → back ≡ not_taken taken token
    → glue_left (gluings.ToSize d) (fed token context ∷ rest) ≡ Got (values.BoxSize (To (sp k.size))) context (put_back context back ++ rest)
unfolding glue_left
to_size_done d k true back token context rest step is = rw (step, is) refl
to_size_done d k false back token context rest step is = rw (step, is) refl

pub to_size_bad : (d : Dimen) (kind : ScanKind) (x : FedToken) (rest : List FedToken) → dimen_left d (x ∷ rest) ≡ Bad kind → glue_left (gluings.ToSize d) (x ∷ rest) ≡ Bad kind
unfolding glue_left
to_size_bad d kind x rest step = rw step refl

pub to_fault : (k : Keyword) (x : FedToken) (context : Context) (fault : ScanFault) → Attempts x (keyword_left k) (Err fault)
    → GlueMoves glue_left context (x ∷ []) (glue_left (gluings.To k)) (Err fault)
to_fault k x context (Kind kind) never = absurd never
to_fault k x context NoMemory never = tt

-- ---- what is passed on

pub glue_same : {S : Type 0} (left : S → List FedToken → Answer Value) (context : Context) (given given' : List FedToken) (before before' : List FedToken → Answer Value) (result : Result (GlueMove S) ScanFault)
    → ((rest : List FedToken) → before' (given' ++ rest) ≡ before (given ++ rest)) → GlueMoves left context given before result → GlueMoves left context given' before' result
glue_same left context given given' before before' (Ok (On state)) same moves = λ rest. same rest ∙ moves rest
glue_same left context given given' before before' (Ok (Done value back)) same moves = λ rest. same rest ∙ moves rest
glue_same left context given given' before before' (Err (Kind kind)) same moves = λ rest. same rest ∙ moves rest
glue_same left context given given' before before' (Err NoMemory) same moves = tt

pub dimen_glue_fault : (g : Gluing) (d : Dimen) (x : FedToken) (context : Context) (fault : ScanFault) → ((kind : ScanKind) (rest : List FedToken) → dimen_left d (x ∷ rest) ≡ Bad kind → glue_left g (x ∷ rest) ≡ Bad kind)
    → Follows amount_of dimen_left x (dimen_left d) (Err fault) → GlueMoves glue_left context (x ∷ []) (glue_left g) (Err fault)
dimen_glue_fault g d x context (Kind kind) same follows = λ rest. same kind rest (follows rest)
dimen_glue_fault g d x context NoMemory same follows = tt

one_of_all : (context : Context) (tokens : List Token) (k : ℕ) (first : Token) (rest : List FedToken) → k < length tokens
    → put_back context (drop k tokens) ++ rest ≡ fed (get_or tokens k first) context ∷ (put_back context (drop (k + 1) tokens) ++ rest)
one_of_all context tokens k first rest short = rw (drop_more tokens k first short) refl

pub all_fault : (context : Context) (tokens : List Token) (k : ℕ) (first : Token) (late now : Late) (fault : ScanFault) → k < length tokens
    → ((rest : List FedToken) → late_left late (put_back context tokens ++ rest) ≡ late_left now (put_back context (drop k tokens) ++ rest))
    → GlueMoves late_left context (fed (get_or tokens k first) context ∷ []) (late_left now) (Err fault)
    → GlueMoves late_left context (put_back context tokens) (late_left late) (Err fault)
all_fault context tokens k first late now (Kind kind) short same moves =
    λ rest. same rest ∙ ap (late_left now) (one_of_all context tokens k first rest short) ∙ moves (put_back context (drop (k + 1) tokens) ++ rest)
all_fault context tokens k first late now NoMemory short same moves = tt
