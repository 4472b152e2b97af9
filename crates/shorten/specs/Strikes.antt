-- Striking out, one whole field or one whole object of a list at a time. Assumes nothing.
use Rattle.std.specs.Prelude.{ℕ, List}
use Rattle.tokens.specs.Response.{Response, field, Content, object, objects, Objects, one, Reading}

mutual
  -- One field is struck out: the first, one further on, or one inside the first field's content. "Order is kept".
  pub data Strike : Response → Response → Type 0 where
    this : {l : ℕ} {c : Content} {r : Response} → Strike (field l c r) r
    later : {l : ℕ} {c : Content} {r s : Response} → Strike r s → Strike (field l c r) (field l c s)
    within : {l : ℕ} {c d : Content} {r : Response} → StrikeContent c d → Strike (field l c r) (field l d r)

  -- Of a content only what stands inside an object or inside a list of objects: "values and value lists are never altered".
  pub data StrikeContent : Content → Content → Type 0 where
    in_object : {r s : Response} → Strike r s → StrikeContent (object r) (object s)
    in_objects : {os ps : Objects} → StrikeObjects os ps → StrikeContent (objects os) (objects ps)

  -- One object of a list is struck out, or something inside one. "Emptied objects and lists stay as empty brackets."
  pub data StrikeObjects : Objects → Objects → Type 0 where
    this-object : {r : Response} {os : Objects} → StrikeObjects (one r os) os
    later-object : {r : Response} {os ps : Objects} → StrikeObjects os ps → StrikeObjects (one r os) (one r ps)
    within-object : {r s : Response} {os : Objects} → Strike r s → StrikeObjects (one r os) (one s os)

-- Any number of times, one after another.
pub data Many {A : Type 0} (S : A → A → Type 0) : A → A → Type 0 where
  enough : {a : A} → Many S a a
  more : {a b c : A} → S a b → Many S b c → Many S a c

abbrev pub Strikes : Response → Response → Type 0
Strikes R S = Many Strike R S

-- "the second can be made from the first by striking out whole fields or whole objects of a list": some reading of the sequence s from
-- some reading of the sequence f.
abbrev pub Shortened : List ℕ → List ℕ → Type 0
Shortened f s = (R : Response) × (S : Response) × Reading f R × Reading s S × Strikes R S
