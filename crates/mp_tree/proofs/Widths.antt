-- A text has no section with many more tables than bytes.
use Rattle.std.proofs.Common.{◌≡◌, ℕ, zero, suc, ◌+◌, ◌*◌, ◌≤◌, Bool, true, false, ◌==◌, List, [], ◌∷◌, ◌++◌, length, drop, Ordering, Less, Equal, Greater, Option, Some, None, option_map, if◌then◌else◌, ◌&&◌, slice_index, IfSome, arith, length-drop}
use Rattle.std.specs.Prelude.{option_and_then}
use Rattle.std.specs.Ordering.{nat_cmp, match_ordering}
use Rattle.std.specs.Cmp.Lexicographic.{slice_cmp}
use Rattle.std.specs.List.{list_all}
use Rattle.toml_parser.specs.Lexical.{Read, first, skip_blank, skip_ws}
use Rattle.toml_parser.specs.Strings.{Key, quoted}
use Rattle.toml_parser.specs.Numbers.{unquoted}
use Rattle.toml_parser.specs.declared.scalar.Scalar.{Scalar}
use Rattle.toml_parser.specs.declared.scalar.Scalar.TheVariants.{Boolean, Integer, Float, Datetime}
use Rattle.toml.specs.Data.{Data, string, array, table, Items, no_items, item, push_item, Members, same_key, get_member}
use Rattle.toml.specs.Tables.{Node, value, open_table, open_array, Nodes, no_nodes, node, get_node, insert, replace, close, close_node, Edit, header_node, dot_node, by_header, by_dot, along_header, along_dots, Definition, key_value, std_table, array_table, Expression, new_node, redefine, at_found, at_key, put, Document, define_as, define, Origin, header, implicit, dotted}
use Rattle.toml.specs.Parse.{after_byte, after_element, keyval, key_equals, items as read_items, members, scalar_data, atom, val, header_key, expression, line, ends_line, lines, skip_bom, parse_document}
use Rattle.mp_tree.specs.Tree.{items, items_list, is_table, is_array_of_tables, tables_of, section}
use Rattle.mp_tree.proofs.Rests.{Leaves, leaves_then, leaves_more, val-leaves, line-leaves, key_equals-leaves, skip_blank-within}

-- how many items an array has
abbrev pub width : Data → ℕ
width d = length (items d)

items_list-push : (ds : Items) (d : Data) → length (items_list (push_item ds d)) ≡ length (items_list ds) + 1
items_list-push no_items d = omega arith
items_list-push (item e ds) d = omega (arith, items_list-push ds d)

-- ---- values

-- what was read, if it was, is a list of at most n items
abbrev pub AtMost : ℕ → Read Items → Type 0
AtMost n o = IfSome o (λ p. length (items_list p.0) ≤ n)

then_any : {A B : Type 0} (P : B → Type 0) (o : Option A) (g : A → Option B) → ((x : A) → IfSome (g x) P) → IfSome (option_and_then g o) P
then_any P None g h = tt
then_any P (Some x) g h = h x

if_either : {B : Type 0} (P : B → Type 0) (b : Bool) (x y : Option B) → IfSome x P → IfSome y P → IfSome (if b then x else y) P
if_either P true x y hx hy = hx
if_either P false x y hx hy = hy

read_items-few : (val : List ℕ → Read Data) (n : ℕ) (found : Items) (text : List ℕ) → AtMost (length (items_list found) + n) (read_items val n found text)
unfolding read_items
read_items-few val zero found text = tt
read_items-few val (suc n) found text =
    let start = skip_blank text in
    let P : Items × List ℕ → Type 0 = λ p. length (items_list p.0) ≤ length (items_list found) + suc n in
    if_either P (first start == 93) (Some (found, drop 1 start)) (option_and_then (λ v. option_and_then (read_items val n (push_item found v.0)) (after_element 93 v.1)) (val start)) (omega arith)
    (then_any P (val start) (λ v. option_and_then (read_items val n (push_item found v.0)) (after_element 93 v.1))
    (λ v. then_any P (after_element 93 v.1) (read_items val n (push_item found v.0)) (λ rest. one_more v.0 rest (read_items-few val n (push_item found v.0) rest))))
  where
    one_more : (d : Data) (rest : List ℕ) → AtMost (length (items_list (push_item found d)) + n) (read_items val n (push_item found d) rest) → IfSome (read_items val n (push_item found d) rest) (λ p. length (items_list p.0) ≤ length (items_list found) + suc n)
    one_more d rest h = weaken (read_items val n (push_item found d) rest) h
      where
        weaken : (o : Read Items) → AtMost (length (items_list (push_item found d)) + n) o → IfSome o (λ p. length (items_list p.0) ≤ length (items_list found) + suc n)
        weaken None h = tt
        weaken (Some p) h = omega (arith, items_list-push found d, h)

-- what was read is a value of at most n items
abbrev pub Narrow : ℕ → Read Data → Type 0
Narrow n o = IfSome o (λ p. width p.0 ≤ n)

narrow_array : (n : ℕ) (o : Read Items) → AtMost n o → Narrow n (option_map (λ p. (array p.0, p.1)) o)
narrow_array n None h = tt
narrow_array n (Some p) h = h

narrow_table : (n : ℕ) (o : Read Members) → Narrow n (option_map (λ p. (table p.0, p.1)) o)
narrow_table n None = tt
narrow_table n (Some p) = omega arith

narrow_string : (n : ℕ) (o : Read (List ℕ)) → Narrow n (option_map (λ p. (string p.0, p.1)) o)
narrow_string n None = tt
narrow_string n (Some p) = omega arith

width-scalar : (s : Scalar) → width (scalar_data s) ≡ 0
width-scalar (Boolean b) = omega arith
width-scalar (Integer z) = omega arith
width-scalar (Float x) = omega arith
width-scalar (Datetime dt) = omega arith

narrow_scalar : (n : ℕ) (o : Read Scalar) → Narrow n (option_map (λ p. (scalar_data p.0, p.1)) o)
narrow_scalar n None = tt
narrow_scalar n (Some p) = omega (arith, width-scalar p.0)

atom-narrow : (n : ℕ) (text : List ℕ) → Narrow n (atom text)
unfolding atom
atom-narrow n text = if_either (λ p. width p.0 ≤ n) _ (option_map (λ p. (string p.0, p.1)) (quoted text)) (option_map (λ p. (scalar_data p.0, p.1)) (unquoted text)) (narrow_string n (quoted text)) (narrow_scalar n (unquoted text))

val-narrow : (depth : ℕ) (text : List ℕ) → Narrow (length text) (val depth text)
unfolding val
val-narrow zero text = atom-narrow (length text) text
val-narrow (suc depth) text =
    let P : Data × List ℕ → Type 0 = λ p. width p.0 ≤ length text in
    if_either P (first text == 91) (option_map (λ p. (array p.0, p.1)) (read_items (val depth) (length text) no_items (drop 1 text))) _
    (narrow_array (length text) (read_items (val depth) (length text) no_items (drop 1 text)) (from_none (read_items-few (val depth) (length text) no_items (drop 1 text))))
    (if_either P (first text == 123) (option_map (λ p. (table p.0, p.1)) (members (val depth) (length text) no_nodes (drop 1 text))) (atom text)
    (narrow_table (length text) (members (val depth) (length text) no_nodes (drop 1 text))) (atom-narrow (length text) text))
  where
    from_none : AtMost (0 + length text) (read_items (val depth) (length text) no_items (drop 1 text)) → AtMost (length text) (read_items (val depth) (length text) no_items (drop 1 text))
    from_none h = let e : 0 + length text ≡ length text = omega arith in rw e at h

-- ---- tables

-- how many items the array has that a node stands for
abbrev pub node_width : Node → ℕ
node_width (value d) = width d
node_width (open_table origin ns) = 0
node_width (open_array done last) = length (items_list done) + 1

-- each node stands for at most n items
abbrev pub AreNarrow : ℕ → Nodes → Type 0
AreNarrow n no_nodes = Unit {0}
AreNarrow n (node k x ns) = (node_width x ≤ n) × AreNarrow n ns

narrow_more : (n m : ℕ) (ns : Nodes) → n ≤ m → AreNarrow n ns → AreNarrow m ns
narrow_more n m no_nodes few h = tt
narrow_more n m (node k x ns) few h = (omega (arith, h.0), narrow_more n m ns few h.1)

narrow_ordered : (n : ℕ) (o : Ordering) (a b c : Nodes) → AreNarrow n a → AreNarrow n b → AreNarrow n c → AreNarrow n (match_ordering o a b c)
narrow_ordered n Less a b c ha hb hc = ha
narrow_ordered n Equal a b c ha hb hc = hb
narrow_ordered n Greater a b c ha hb hc = hc

insert-narrow : (n : ℕ) (k : List ℕ) (x : Node) (ns : Nodes) → node_width x ≤ n → AreNarrow n ns → AreNarrow n (insert k x ns)
insert-narrow n k x no_nodes few h = (few, tt)
insert-narrow n k x (node l y ns) few h =
    narrow_ordered n (slice_cmp nat_cmp k l) (node k x (node l y ns)) (node l x ns) (node l y (insert k x ns)) (few, h) (few, h.1) (h.0, insert-narrow n k x ns few h.1)

narrow_if : (n : ℕ) (b : Bool) (x y : Nodes) → AreNarrow n x → AreNarrow n y → AreNarrow n (if b then x else y)
narrow_if n true x y hx hy = hx
narrow_if n false x y hx hy = hy

replace-narrow : (n : ℕ) (k : List ℕ) (x : Node) (ns : Nodes) → node_width x ≤ n → AreNarrow n ns → AreNarrow n (replace k x ns)
replace-narrow n k x no_nodes few h = tt
replace-narrow n k x (node l y ns) few h = narrow_if n (same_key k l) (node l x ns) (node l y (replace k x ns)) (few, h.1) (h.0, replace-narrow n k x ns few h.1)

get_node-narrow : (n : ℕ) (k : List ℕ) (ns : Nodes) → AreNarrow n ns → IfSome (get_node k ns) (λ x. node_width x ≤ n)
get_node-narrow n k no_nodes h = tt
get_node-narrow n k (node l x ns) h = if_either (λ x. node_width x ≤ n) (same_key k l) (Some x) (get_node k ns) h.0 (get_node-narrow n k ns h.1)

if_mapped : {A B : Type 0} (P : B → Type 0) (f : A → B) (Q : A → Type 0) (o : Option A) → IfSome o Q → ((x : A) → Q x → P (f x)) → IfSome (option_map f o) P
if_mapped P f Q None h more = tt
if_mapped P f Q (Some x) h more = more x h

if_any : {A : Type 0} (o : Option A) → IfSome o (λ x. Unit {0})
if_any None = tt
if_any (Some x) = tt

header_node-narrow : (n : ℕ) (edit : Edit) (x : Node) → node_width x ≤ n → IfSome (header_node edit x) (λ y. node_width y ≤ n)
header_node-narrow n edit (value d) few = tt
header_node-narrow n edit (open_table origin inner) few = if_mapped (λ y. node_width y ≤ n) (open_table origin) (λ ns. Unit {0}) (edit inner) (if_any (edit inner)) (λ ns h. omega arith)
header_node-narrow n edit (open_array done last) few = if_mapped (λ y. node_width y ≤ n) (open_array done) (λ ns. Unit {0}) (edit last) (if_any (edit last)) (λ ns h. few)

dot_node-narrow : (n : ℕ) (edit : Edit) (x : Node) → IfSome (dot_node edit x) (λ y. node_width y ≤ n)
dot_node-narrow n edit (value d) = tt
dot_node-narrow n edit (open_table header inner) = tt
dot_node-narrow n edit (open_table implicit inner) = if_mapped (λ y. node_width y ≤ n) (open_table dotted) (λ ns. Unit {0}) (edit inner) (if_any (edit inner)) (λ ns h. omega arith)
dot_node-narrow n edit (open_table dotted inner) = if_mapped (λ y. node_width y ≤ n) (open_table dotted) (λ ns. Unit {0}) (edit inner) (if_any (edit inner)) (λ ns h. omega arith)
dot_node-narrow n edit (open_array done last) = tt

by_header-narrow : (n : ℕ) (k : List ℕ) (edit : Edit) (ns : Nodes) (o : Option Node) → AreNarrow n ns → IfSome o (λ x. node_width x ≤ n) → IfSome (by_header k edit ns o) (AreNarrow n)
by_header-narrow n k edit ns None h few =
    if_mapped (AreNarrow n) (λ new. insert k (open_table implicit new) ns) (λ new. Unit {0}) (edit no_nodes) (if_any (edit no_nodes)) (λ new u. insert-narrow n k (open_table implicit new) ns (omega arith) h)
by_header-narrow n k edit ns (Some x) h few =
    if_mapped (AreNarrow n) (λ new. replace k new ns) (λ new. node_width new ≤ n) (header_node edit x) (header_node-narrow n edit x few) (λ new few. replace-narrow n k new ns few h)

by_dot-narrow : (n : ℕ) (k : List ℕ) (edit : Edit) (ns : Nodes) (o : Option Node) → AreNarrow n ns → IfSome (by_dot k edit ns o) (AreNarrow n)
by_dot-narrow n k edit ns None h =
    if_mapped (AreNarrow n) (λ new. insert k (open_table dotted new) ns) (λ new. Unit {0}) (edit no_nodes) (if_any (edit no_nodes)) (λ new u. insert-narrow n k (open_table dotted new) ns (omega arith) h)
by_dot-narrow n k edit ns (Some x) h =
    if_mapped (AreNarrow n) (λ new. replace k new ns) (λ new. node_width new ≤ n) (dot_node edit x) (dot_node-narrow n edit x) (λ new few. replace-narrow n k new ns few h)

-- an expression defines a value of at most n items, or a table
abbrev pub DefinesFew : ℕ → Definition → Type 0
DefinesFew n (key_value d) = width d ≤ n
DefinesFew n std_table = Unit {0}
DefinesFew n array_table = Unit {0}

new_node-narrow : (n : ℕ) (what : Definition) → DefinesFew n what → node_width (new_node what) ≤ n + 1
new_node-narrow n (key_value d) few = omega (arith, few)
new_node-narrow n std_table few = omega arith
new_node-narrow n array_table few = omega arith

redefine-narrow : (n : ℕ) (what : Definition) (x : Node) → node_width x ≤ n → IfSome (redefine what x) (λ y. node_width y ≤ n + 1)
redefine-narrow n (key_value d) x few = tt
redefine-narrow n std_table (value d) few = tt
redefine-narrow n std_table (open_table implicit inner) few = omega arith
redefine-narrow n std_table (open_table dotted inner) few = tt
redefine-narrow n std_table (open_table header inner) few = tt
redefine-narrow n std_table (open_array done last) few = tt
redefine-narrow n array_table (value d) few = tt
redefine-narrow n array_table (open_table origin inner) few = tt
redefine-narrow n array_table (open_array done last) few = omega (arith, items_list-push done (table (close last)))

at_found-narrow : (n : ℕ) (k : List ℕ) (what : Definition) (ns : Nodes) (o : Option Node) → DefinesFew n what → AreNarrow n ns → IfSome o (λ x. node_width x ≤ n) → IfSome (at_found k what ns o) (AreNarrow (n + 1))
at_found-narrow n k what ns None few h found = insert-narrow (n + 1) k (new_node what) ns (new_node-narrow n what few) (narrow_more n (n + 1) ns (omega arith) h)
at_found-narrow n k what ns (Some x) few h found =
    if_mapped (AreNarrow (n + 1)) (λ y. replace k y ns) (λ y. node_width y ≤ n + 1) (redefine what x) (redefine-narrow n what x found) (λ y few. replace-narrow (n + 1) k y ns few (narrow_more n (n + 1) ns (omega arith) h))

if_more : (n m : ℕ) (o : Option Nodes) → n ≤ m → IfSome o (AreNarrow n) → IfSome o (AreNarrow m)
if_more n m None few h = tt
if_more n m (Some ns) few h = narrow_more n m ns few h

-- an edit of the root that adds at most one item
abbrev pub AddsOne : ℕ → Edit → Type 0
AddsOne n edit = (ns : Nodes) → AreNarrow n ns → IfSome (edit ns) (AreNarrow (n + 1))

at_key-adds : (n : ℕ) (k : List ℕ) (what : Definition) → DefinesFew n what → AddsOne n (at_key k what)
unfolding at_key
at_key-adds n k what few ns h = at_found-narrow n k what ns (get_node k ns) few h (get_node-narrow n k ns h)

along_dots-adds : (n : ℕ) (path : List (List ℕ)) (edit : Edit) → AddsOne n edit → AddsOne n (along_dots path edit)
unfolding along_dots
along_dots-adds n [] edit adds ns h = adds ns h
along_dots-adds n (k ∷ path) edit adds ns h = if_more n (n + 1) (by_dot k (along_dots path edit) ns (get_node k ns)) (omega arith) (by_dot-narrow n k (along_dots path edit) ns (get_node k ns) h)

along_header-adds : (n : ℕ) (path : List (List ℕ)) (edit : Edit) → AddsOne n edit → AddsOne n (along_header path edit)
unfolding along_header
along_header-adds n [] edit adds ns h = adds ns h
along_header-adds n (k ∷ path) edit adds ns h = if_more n (n + 1) (by_header k (along_header path edit) ns (get_node k ns)) (omega arith) (by_header-narrow n k (along_header path edit) ns (get_node k ns) h (get_node-narrow n k ns h))

-- ---- documents

abbrev pub IsNarrow : ℕ → Document → Type 0
IsNarrow n doc = AreNarrow n doc.0

define_as-narrow : (n : ℕ) (doc : Document) (k : Key) (what : Definition) → DefinesFew n what → IsNarrow n doc → IfSome (define_as doc k what) (IsNarrow (n + 1))
define_as-narrow n doc k (key_value d) few h =
    if_mapped (IsNarrow (n + 1)) (λ root. (root, doc.1)) (AreNarrow (n + 1)) (along_header doc.1 (put k d) doc.0) (along_header-adds n doc.1 (put k d) (along_dots-adds n k.0 (at_key k.1 (key_value d)) (at_key-adds n k.1 (key_value d) few)) doc.0 h) (λ root h. h)
define_as-narrow n doc k std_table few h =
    if_mapped (IsNarrow (n + 1)) (λ root. (root, k.0 ++ k.1 ∷ [])) (AreNarrow (n + 1)) (along_header k.0 (at_key k.1 std_table) doc.0) (along_header-adds n k.0 (at_key k.1 std_table) (at_key-adds n k.1 std_table few) doc.0 h) (λ root h. h)
define_as-narrow n doc k array_table few h =
    if_mapped (IsNarrow (n + 1)) (λ root. (root, k.0 ++ k.1 ∷ [])) (AreNarrow (n + 1)) (along_header k.0 (at_key k.1 array_table) doc.0) (along_header-adds n k.0 (at_key k.1 array_table) (at_key-adds n k.1 array_table few) doc.0 h) (λ root h. h)

define-narrow : (n : ℕ) (doc : Document) (e : Expression) → DefinesFew n e.1 → IsNarrow n doc → IfSome (define doc e) (IsNarrow (n + 1))
unfolding define
define-narrow n doc e few h = define_as-narrow n doc e.0 e.1 few h

-- an expression that was read defines at most n items
abbrev pub ReadsFew : ℕ → Read Expression → Type 0
ReadsFew n o = IfSome o (λ e. DefinesFew n e.0.1)

defines_pair : (n : ℕ) (k : Key) (o : Read Data) → Narrow n o → IfSome {T = (Key × Data) × List ℕ} (option_map (λ d. ((k, d.0), d.1)) o) (λ p. width p.0.1 ≤ n)
defines_pair n k None h = tt
defines_pair n k (Some p) h = h

few_more : (n m : ℕ) (o : Read Data) → n ≤ m → Narrow n o → Narrow m o
few_more n m None few h = tt
few_more n m (Some p) few h = omega (arith, h)

within_option : {A : Type 0} (n : ℕ) (o : Read A) → Leaves n o → IfSome o (λ p. length p.1 ≤ n)
within_option n o h = h.few

keyval-narrow : (depth : ℕ) (text : List ℕ) → IfSome (keyval (val depth) text) (λ p. width p.0.1 ≤ length text)
keyval-narrow depth text = go (key_equals text) (key_equals-leaves text)
  where
    go : (o : Read Key) → Leaves (length text) o → IfSome {T = (Key × Data) × List ℕ} (option_and_then (λ k. option_map (λ d. ((k.0, d.0), d.1)) (val depth k.1)) o) (λ p. width p.0.1 ≤ length text)
    go None h = tt
    go (Some k) h = defines_pair (length text) k.0 (val depth k.1) (few_more (length k.1) (length text) (val depth k.1) h.few (val-narrow depth k.1))

expression-few : (text : List ℕ) → ReadsFew (length text) (expression text)
unfolding expression
expression-few text =
    let P : Expression × List ℕ → Type 0 = λ e. DefinesFew (length text) e.0.1 in
    if_either P (first text == 91 && slice_index text 1 == 91) (option_and_then (λ k. option_map (λ rest. ((k.0, array_table), rest)) (after_byte 93 k.1)) (header_key (drop 2 text))) _
    (then_any P (header_key (drop 2 text)) (λ k. option_map (λ rest. ((k.0, array_table), rest)) (after_byte 93 k.1)) (λ k. if_mapped P (λ rest. ((k.0, array_table), rest)) (λ rest. Unit {0}) (after_byte 93 k.1) (if_any (after_byte 93 k.1)) (λ rest u. tt)))
    (if_either P (first text == 91) (option_map (λ p. ((p.0, std_table), p.1)) (header_key (drop 1 text))) (option_map (λ p. ((p.0.0, key_value p.0.1), p.1)) (keyval (val 80) text))
    (if_mapped P (λ p. ((p.0, std_table), p.1)) (λ p. Unit {0}) (header_key (drop 1 text)) (if_any (header_key (drop 1 text))) (λ p u. tt))
    (if_mapped P (λ p. ((p.0.0, key_value p.0.1), p.1)) (λ p. width p.0.1 ≤ length text) (keyval (val 80) text) (keyval-narrow 80 text) (λ p h. h)))

line-few : (text : List ℕ) → ReadsFew (length text) (line text)
unfolding line
line-few text = go (expression text) (expression-few text)
  where
    go : (o : Read Expression) → ReadsFew (length text) o → ReadsFew (length text) (option_and_then (λ e. if ends_line (skip_ws e.1) then Some e else None) o)
    go None h = tt
    go (Some e) h = if_either (λ e. DefinesFew (length text) e.0.1) (ends_line (skip_ws e.1)) (Some e) None h tt

defines_more : (n m : ℕ) (what : Definition) → n ≤ m → DefinesFew n what → DefinesFew m what
defines_more n m (key_value d) few h = omega (arith, h)
defines_more n m std_table few h = tt
defines_more n m array_table few h = tt

-- n expressions in a text of at most m bytes
lines-narrow : (n m : ℕ) (doc : Document) (text : List ℕ) → IsNarrow m doc → length text ≤ m → IfSome (lines n doc text) (IsNarrow (m + n))
unfolding lines
lines-narrow zero m doc text h short = tt
lines-narrow (suc n) m doc text h short =
    if_either (IsNarrow (m + suc n)) (length (skip_blank text) == 0) (Some doc) (option_and_then (λ e. option_and_then (λ next. lines n next e.1) (define doc e.0)) (line (skip_blank text))) (narrow_more m (m + suc n) doc.0 (omega arith) h)
    (after_line m n doc (line (skip_blank text)) h (leaves_more (length (skip_blank text)) m (line (skip_blank text)) (omega (arith, skip_blank-within text)) (line-leaves (skip_blank text)))
    (read_more (length (skip_blank text)) m (line (skip_blank text)) (omega (arith, skip_blank-within text)) (line-few (skip_blank text))) (lines-narrow n (m + 1)))
  where
    read_more : (a b : ℕ) (o : Read Expression) → a ≤ b → ReadsFew a o → ReadsFew b o
    read_more a b None few h = tt
    read_more a b (Some e) few h = defines_more a b e.0.1 few h

    more_lines : (m n : ℕ) (o : Option Document) → IfSome o (IsNarrow (m + 1 + n)) → IfSome o (IsNarrow (m + suc n))
    more_lines m n None h = tt
    more_lines m n (Some doc) h = narrow_more (m + 1 + n) (m + suc n) doc.0 (omega arith) h

    after_definition : (m n : ℕ) (rest : List ℕ) (o : Option Document) → IfSome o (IsNarrow (m + 1)) → length rest ≤ m → ((doc : Document) (text : List ℕ) → IsNarrow (m + 1) doc → length text ≤ m + 1 → IfSome (lines n doc text) (IsNarrow (m + 1 + n)))
        → IfSome (option_and_then (λ next. lines n next rest) o) (IsNarrow (m + suc n))
    after_definition m n rest None h short again = tt
    after_definition m n rest (Some next) h short again = more_lines m n (lines n next rest) (again next rest h (omega arith))

    after_line : (m n : ℕ) (doc : Document) (o : Read Expression) → IsNarrow m doc → Leaves m o → ReadsFew m o → ((doc : Document) (text : List ℕ) → IsNarrow (m + 1) doc → length text ≤ m + 1 → IfSome (lines n doc text) (IsNarrow (m + 1 + n)))
        → IfSome (option_and_then (λ e. option_and_then (λ next. lines n next e.1) (define doc e.0)) o) (IsNarrow (m + suc n))
    after_line m n doc None h short few again = tt
    after_line m n doc (Some e) h short few again = after_definition m n e.1 (define doc e.0) (define-narrow m doc e.0 few h) short.few again

-- the members that some nodes stand for
close-narrow : (n : ℕ) (k : List ℕ) (ns : Nodes) → AreNarrow n ns → IfSome (get_member k (close ns)) (λ d. width d ≤ n)
close-narrow n k no_nodes h = tt
close-narrow n k (node l x ns) h = ordered (slice_cmp nat_cmp k l) (get_member k (close ns)) (close_node x) (close-narrow n k ns h.1) (closed x h.0)
  where
    closed : (x : Node) → node_width x ≤ n → width (close_node x) ≤ n
    closed (value d) few = few
    closed (open_table origin inner) few = omega arith
    closed (open_array done last) few = omega (arith, items_list-push done (table (close last)))

    ordered : (o : Ordering) (more : Option Data) (d : Data) → IfSome more (λ d. width d ≤ n) → width d ≤ n → IfSome (match_ordering o more (Some d) more) (λ d. width d ≤ n)
    ordered Less more d h few = h
    ordered Equal more d h few = few
    ordered Greater more d h few = h

section-narrow : (n : ℕ) (o : Option Data) → IfSome o (λ d. width d ≤ n) → length (tables_of o) ≤ n
section-narrow n None h = omega arith
section-narrow n (Some d) h = go (is_array_of_tables (Some d)) h
  where
    go : (b : Bool) → width d ≤ n → length (if b then items d else []) ≤ n
    go true few = few
    go false few = omega arith

bom_within : (text : List ℕ) → length (skip_bom text) ≤ length text
unfolding skip_bom
bom_within text = go ((first text == 0xEF && slice_index text 1 == 0xBB) && slice_index text 2 == 0xBF)
  where
    go : (b : Bool) → length (if b then drop 3 text else text) ≤ length text
    go true = omega (arith, length-drop 3 text)
    go false = omega arith

-- a section of a text has at most one more table than twice its bytes
pub section-few : (text : List ℕ) (ms : Members) (k : List ℕ) → parse_document text ≡ Some ms → length (section k (table ms)) ≤ 2 * length text + 1
unfolding parse_document
section-few text ms k read = section-narrow (2 * length text + 1) (get_member k ms) (found (lines (suc (length text)) (no_nodes, []) (skip_bom text)) read (lines-narrow (suc (length text)) (length text) (no_nodes, []) (skip_bom text) tt (bom_within text)))
  where
    found : (o : Option Document) → option_map (λ doc. close doc.0) o ≡ Some ms → IfSome o (IsNarrow (length text + suc (length text))) → IfSome (get_member k ms) (λ d. width d ≤ 2 * length text + 1)
    found None read h = cc
    found (Some doc) read h =
        let e : close doc.0 ≡ ms = cc in
        let same : length text + suc (length text) ≡ 2 * length text + 1 = omega arith in
        rw (← e, ← same) (close-narrow (length text + suc (length text)) k doc.0 h)
