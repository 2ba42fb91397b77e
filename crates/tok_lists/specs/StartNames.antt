-- The names that have a meaning at the start, in the order of their numbers: the primitives of the profile and its
-- parameters (The TeXbook, chapters 20, 24 and 25; pTeX).
use Rattle.std.specs.Prelude.{ℕ, List, [], ◌∷◌, ◌++◌, map, false, codes}
use Rattle.jis_codes.specs.declared.Char.TheVariants.{One}
use Rattle.tok_lists.specs.declared.spelling.Spelling.{Spelling}

-- what is expanded
abbrev pub expandable_words : List (List ℕ)
expandable_words =
    codes "expandafter" ∷ codes "noexpand" ∷ codes "csname" ∷ codes "string" ∷ codes "number" ∷
    codes "romannumeral" ∷ codes "the" ∷ codes "input" ∷ codes "endinput" ∷ codes "jis" ∷
    codes "euc" ∷ codes "sjis" ∷ codes "kuten" ∷ codes "else" ∷ codes "or" ∷
    codes "fi" ∷ codes "if" ∷ codes "ifcat" ∷ codes "ifx" ∷ codes "ifnum" ∷
    codes "ifdim" ∷ codes "ifodd" ∷ codes "ifvmode" ∷ codes "ifhmode" ∷ codes "ifinner" ∷
    codes "ifvoid" ∷ codes "ifhbox" ∷ codes "ifvbox" ∷ codes "ifcase" ∷ codes "iftrue" ∷
    codes "iffalse" ∷ codes "ifydir" ∷ codes "iftdir" ∷ codes "ifddir" ∷ []

-- what assigns, and the prefixes
abbrev pub assignment_words : List (List ℕ)
assignment_words =
    codes "def" ∷ codes "edef" ∷ codes "gdef" ∷ codes "xdef" ∷ codes "let" ∷
    codes "chardef" ∷ codes "countdef" ∷ codes "dimendef" ∷ codes "skipdef" ∷ codes "toksdef" ∷
    codes "font" ∷ codes "count" ∷ codes "dimen" ∷ codes "skip" ∷ codes "toks" ∷
    codes "advance" ∷ codes "multiply" ∷ codes "divide" ∷ codes "setbox" ∷ codes "wd" ∷
    codes "ht" ∷ codes "dp" ∷ codes "catcode" ∷ codes "kcatcode" ∷ codes "xspcode" ∷
    codes "inhibitxspcode" ∷ codes "prebreakpenalty" ∷ codes "postbreakpenalty" ∷ codes "autospacing" ∷ codes "noautospacing" ∷
    codes "autoxspacing" ∷ codes "noautoxspacing" ∷ codes "deadcycles" ∷ codes "global" ∷ codes "long" ∷ []

-- what builds lists and boxes
abbrev pub list_words : List (List ℕ)
list_words =
    codes "relax" ∷ codes "begingroup" ∷ codes "endgroup" ∷ codes "par" ∷ codes "indent" ∷
    codes "noindent" ∷ codes "char" ∷ codes " " ∷ codes "ignorespaces" ∷ codes "hskip" ∷
    codes "hfil" ∷ codes "hfill" ∷ codes "hss" ∷ codes "hfilneg" ∷ codes "vskip" ∷
    codes "vfil" ∷ codes "vfill" ∷ codes "vss" ∷ codes "vfilneg" ∷ codes "kern" ∷
    codes "penalty" ∷ codes "hrule" ∷ codes "vrule" ∷ codes "hbox" ∷ codes "vbox" ∷
    codes "vtop" ∷ codes "box" ∷ codes "copy" ∷ codes "unvbox" ∷ codes "unvcopy" ∷
    codes "raise" ∷ codes "lower" ∷ codes "moveleft" ∷ codes "moveright" ∷ codes "shipout" ∷
    codes "yoko" ∷ codes "tate" ∷ codes "dtou" ∷ codes "inhibitglue" ∷ codes "endcsname" ∷
    codes "end" ∷ []

-- parameters: integers, dimensions, glue, and the output list
abbrev pub parameter_words : List (List ℕ)
parameter_words =
    codes "pretolerance" ∷ codes "tolerance" ∷ codes "linepenalty" ∷ codes "adjdemerits" ∷ codes "interlinepenalty" ∷
    codes "clubpenalty" ∷ codes "widowpenalty" ∷ codes "jcharwidowpenalty" ∷ codes "outputpenalty" ∷ codes "hsize" ∷
    codes "vsize" ∷ codes "parindent" ∷ codes "maxdepth" ∷ codes "boxmaxdepth" ∷ codes "lineskiplimit" ∷
    codes "emergencystretch" ∷ codes "tbaselineshift" ∷ codes "ybaselineshift" ∷ codes "baselineskip" ∷ codes "lineskip" ∷
    codes "parskip" ∷ codes "topskip" ∷ codes "leftskip" ∷ codes "rightskip" ∷ codes "parfillskip" ∷
    codes "kanjiskip" ∷ codes "xkanjiskip" ∷ codes "output" ∷ []

abbrev pub start_words : List (List ℕ)
start_words = expandable_words ++ assignment_words ++ list_words ++ parameter_words

-- a control sequence of characters of one byte
abbrev pub control_word : List ℕ → Spelling
control_word word = record { active = false; chars = map One word }

abbrev pub start_names : List Spelling
start_names = map control_word start_words
