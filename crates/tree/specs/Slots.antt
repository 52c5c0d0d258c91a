-- How a tree lies in slots of sixteen bits, a slot for each byte of the expression. A slot has a tag of six bits, which says what the node
-- at that place is, and a link of ten, the place of one of its parts. A node with parts on both sides keeps the place of the left one in
-- the link of the slot before its own: that slot is the last byte of the left part, or a space or bracket after it, and no node uses its
-- link.
use Rattle.std.specs.Prelude.{List, ℕ, ◌+◌, ◌*◌, ◌-◌, ◌/◌, ◌%◌, get_or, set}
use Rattle.tree.specs.Tree.{forms, Tree, literal, variable, unary, binary, conditional, bare, call, pick, Arguments, last, next}

-- ---- a slot

-- how many tags there are, of six bits, and how many links, of ten
abbrev pub tags : ℕ
tags = 64

abbrev pub links : ℕ
links = 1024

abbrev pub word : ℕ → ℕ → ℕ
word tag link = tag % tags * links + link % links

abbrev pub tag_at : List ℕ → ℕ → ℕ
tag_at w p = get_or w p 0 / links

abbrev pub link_at : List ℕ → ℕ → ℕ
link_at w p = get_or w p 0 % links

-- the link of the slot before a place
abbrev pub left_at : List ℕ → ℕ → ℕ
left_at w p = link_at w (p - 1)

-- a node's own slot
abbrev pub put : List ℕ → ℕ → ℕ → ℕ → List ℕ
put w p tag link = set w p (word tag link)

-- another link in a slot, whose tag stays
abbrev pub set_link : List ℕ → ℕ → ℕ → List ℕ
set_link w p link = set w p (word (tag_at w p) link)

-- a node with parts on both sides
abbrev pub join : List ℕ → ℕ → ℕ → ℕ → ℕ → List ℕ
join w p tag left right = set_link (put w p tag right) (p - 1) left

-- ---- the tags

-- A literal's tag is its form, and variables have the first one behind the forms. A unary operator's tag is its punctuator's number, which
-- is above that; then come the functions, the operators with parts on both sides, the comma of arguments, and picks.
abbrev pub variable_tag : ℕ
variable_tag = forms

abbrev pub first_function_tag : ℕ
first_function_tag = 16

abbrev pub function_tag : ℕ → ℕ
function_tag f = first_function_tag + f

-- `?` and `:` are the first punctuators
abbrev pub question_tag : ℕ
question_tag = 40

abbrev pub colon_tag : ℕ
colon_tag = 41

abbrev pub operator_tag : ℕ → ℕ
operator_tag o = question_tag + o

abbrev pub comma_tag : ℕ
comma_tag = 55

abbrev pub first_pick_tag : ℕ
first_pick_tag = 56

abbrev pub pick_tag : ℕ → ℕ
pick_tag i = first_pick_tag + i

-- ---- what lies in the slots

-- Where the parts of a node stand: nowhere, after it, before it, or on both sides. Each has its place and its tag. Of a leaf the link is
-- free, since it may have a byte alone; what is held in the link of a longer one is a number.
pub data Shape : Type 0 where
  leaf : ℕ → ℕ → Shape
  held : ℕ → ℕ → ℕ → Shape
  before : ℕ → ℕ → Shape → Shape
  between : ℕ → ℕ → Shape → Shape → Shape
  after : ℕ → ℕ → Shape → Shape

-- the place of a shape's node
abbrev pub root : Shape → ℕ
root (leaf p tag) = p
root (held p tag n) = p
root (before p tag e) = p
root (between p tag l r) = p
root (after p tag e) = p

-- a shape is written part by part from the left, then its node
unfoldable pub lay : List ℕ → Shape → List ℕ
lay w (leaf p tag) = put w p tag 0
lay w (held p tag n) = put w p tag n
lay w (before p tag e) = put (lay w e) p tag (root e)
lay w (between p tag l r) = join (lay (lay w l) r) p tag (root l) (root r)
lay w (after p tag e) = put (lay w e) p tag (root e)

-- what stands before the `:` of a conditional, and after it
abbrev pub branches : ℕ → Shape → Shape → Shape
branches q a b = between q colon_tag a b

abbrev mutual
  pub shape_of : Tree → Shape
  shape_of (literal p k) = leaf p k
  shape_of (variable p n) = held p variable_tag n
  shape_of (unary p o e) = before p o (shape_of e)
  shape_of (binary p o l r) = between p (operator_tag o) (shape_of l) (shape_of r)
  shape_of (conditional p q c a b) = between p question_tag (shape_of c) (branches q (shape_of a) (shape_of b))
  shape_of (bare p f) = held p (function_tag f) 0
  shape_of (call p f xs) = before p (function_tag f) (shapes_of xs)
  shape_of (pick p i e) = after p (pick_tag i) (shape_of e)

  pub shapes_of : Arguments → Shape
  shapes_of (last e) = shape_of e
  shapes_of (next e q xs) = between q comma_tag (shape_of e) (shapes_of xs)

-- The slots after a tree has been written into them.
abbrev pub store : List ℕ → Tree → List ℕ
store w e = lay w (shape_of e)
