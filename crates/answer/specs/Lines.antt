-- What the program writes: a token by its number, and the text of each line. Assumes nothing.
use Rattle.std.specs.Prelude.{ℕ, ◌-◌, List, ◌++◌, codes, cond, eqb, ltb}
use Rattle.rules.specs.Eval.{open_object, close_object, open_list, close_list, label}
use Rattle.rules.specs.declared.Outcome.{Outcome}
use Rattle.programs.specs.Text.{field, fields_text}
use Rattle.answer.specs.declared.Token.{Token}
use Rattle.answer.specs.declared.Token.TheVariants.{Value, Label, OpenObject, CloseObject, OpenList, CloseList, Null}

-- Values are below the labels, and the labels below the marks, of which the first is not used.
abbrev pub labels : ℕ
labels = label 0

abbrev pub marks : ℕ
marks = 2000000000

-- What a mark stands for. Anything else that is no value and no label is written as null.
abbrev pub mark_of : ℕ → Token
mark_of n =
    cond (eqb n open_object) OpenObject
    (cond (eqb n close_object) CloseObject
    (cond (eqb n open_list) OpenList
    (cond (eqb n close_list) CloseList Null)))

-- What a token stands for.
abbrev pub token_of : ℕ → Token
token_of n = cond (ltb n labels) (Value n) (cond (ltb n marks) (Label (n - labels)) (mark_of n))

-- The line of a token.
abbrev pub token_text : Token → List ℕ
token_text (Value v) = codes "V" ++ field v
token_text (Label l) = codes "L" ++ field l
token_text OpenObject = codes "{"
token_text CloseObject = codes "}"
token_text OpenList = codes "["
token_text CloseList = codes "]"
token_text Null = codes "N"

-- The first line: of an answer size and visits, of a refusal all that a call returns.
abbrev pub head_text : Outcome → List ℕ
head_text o = cond (eqb o.number 0) (codes "ok" ++ (field o.size ++ field o.visits)) (codes "no\t" ++ fields_text o)
