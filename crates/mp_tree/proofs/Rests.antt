-- What a reader of TOML leaves of a text is no longer than the text.
use Rattle.std.proofs.Common.{◌≡◌, ℕ, zero, suc, ◌≤◌, ◌<◌, Bool, true, false, ◌&&◌, ◌==◌, List, [], ◌∷◌, ◌++◌, length, drop, take, Option, Some, None, option_map, is_some, unwrap_or, if◌then◌else◌, slice_index, encode_utf8, IfSome, inl, inr, arith, length-drop}
use Rattle.std.specs.Prelude.{option_and_then}
use Rattle.std.proofs.lemmas.Bool.{cases_Bool}
use Rattle.toml_parser.specs.Lexical.{Read, line_feed, comma, equals, first, skip_ws, skip_from, skip_turn, skip_lines, skip_blank, starts_newline}
use Rattle.toml_parser.specs.Strings.{Key, hex_escape, hex_len, escape_char, simple_escape, escape, at_delims, special, after_piece, prepend, body, is_plain, trim_newline, one_line, quoted, starts_string, simple_key, key_after, key}
use Rattle.toml_parser.specs.Numbers.{unquoted, word_len, word_value}
use Rattle.toml_parser.specs.declared.scalar.Scalar.{Scalar}
use Rattle.toml.specs.Data.{Data, string, array, table, Items, no_items, push_item}
use Rattle.toml.specs.Tables.{Nodes, no_nodes, close, put, Expression, array_table, std_table, key_value}
use Rattle.toml.specs.Parse.{after_byte, after_element, key_equals, keyval, items, members, scalar_data, atom, val, header_key, expression, line, ends_line, read_map}

-- what was read leaves at most n bytes
pub record Leaves {A : Type 0} (n : ℕ) (o : Read A) : Type 0 where
  pub few : IfSome o (λ p. length p.1 ≤ n)

-- a rest has at most n bytes
pub record LeavesRest (n : ℕ) (o : Option (List ℕ)) : Type 0 where
  pub few : IfSome o (λ rest. length rest ≤ n)

pub leaves_none : {A : Type 0} (n : ℕ) → Leaves {A = A} n None
leaves_none n = record { few = tt }

pub leaves_some : {A : Type 0} (n : ℕ) (x : A) (rest : List ℕ) → length rest ≤ n → Leaves n (Some (x, rest))
leaves_some n x rest h = record { few = h }

pub leaves_either : {A : Type 0} (n : ℕ) (b : Bool) (x y : Read A) → Leaves n x → Leaves n y → Leaves n (if b then x else y)
leaves_either n true x y hx hy = hx
leaves_either n false x y hx hy = hy

pub leaves_then : {A B : Type 0} (n : ℕ) (o : Read A) (g : A × List ℕ → Read B) → Leaves n o → ((p : A × List ℕ) → length p.1 ≤ n → Leaves n (g p)) → Leaves n (option_and_then g o)
leaves_then n None g h more = record { few = tt }
leaves_then n (Some p) g h more = more p h.few

pub leaves_map : {A B : Type 0} (n : ℕ) (f : A → B) (o : Read A) → Leaves n o → Leaves n (option_map (λ p. (f p.0, p.1)) o)
leaves_map n f None h = record { few = tt }
leaves_map n f (Some p) h = record { few = h.few }

leaves_value : {A B : Type 0} (n : ℕ) (f : A → B) (rest : List ℕ) (o : Option A) → length rest ≤ n → Leaves n (option_map (λ x. (f x, rest)) o)
leaves_value n f rest None h = record { few = tt }
leaves_value n f rest (Some x) h = record { few = h }

leaves_rest : {A : Type 0} (n : ℕ) (x : A) (o : Option (List ℕ)) → LeavesRest n o → Leaves n (option_map (λ rest. (x, rest)) o)
leaves_rest n x None h = record { few = tt }
leaves_rest n x (Some rest) h = record { few = h.few }

pub leaves_more : {A : Type 0} (n m : ℕ) (o : Read A) → n ≤ m → Leaves n o → Leaves m o
leaves_more n m None few h = record { few = tt }
leaves_more n m (Some p) few h = record { few = omega (arith, h.few) }

-- ---- strings and keys

skip_from-within : (comments inside : Bool) (text : List ℕ) → length (skip_from comments inside text) ≤ length text
unfolding skip_from
skip_from-within comments inside [] = omega arith
skip_from-within comments inside (c ∷ cs) =
    let next = skip_from-within comments (unwrap_or (skip_turn comments inside c (first cs)) false) cs in
    elim (cases_Bool (is_some (skip_turn comments inside c (first cs)))) [
      | inl more ↦ rw more (omega arith)
      | inr stop ↦ rw stop (omega arith)
    ]

pub skip_blank-within : (text : List ℕ) → length (skip_blank text) ≤ length text
skip_blank-within text = skip_from-within true false text

drop-within : (n : ℕ) (text : List ℕ) → length (drop n text) ≤ length text
drop-within n text = omega (arith, length-drop n text)

pub skip_ws-within : (text : List ℕ) → length (skip_ws text) ≤ length text
unfolding skip_ws
skip_ws-within text = omega (arith, length-drop {A = ℕ})

ruleset steps = (leaves_none, leaves_some, leaves_either, drop-within)

hex_escape-leaves : (n : ℕ) (text : List ℕ) → Leaves (length text) (hex_escape n text)
unfolding hex_escape
hex_escape-leaves n text = search steps

escape_char-leaves : (text : List ℕ) → Leaves (length text) (escape_char text)
unfolding escape_char
escape_char-leaves text =
    let hex = leaves_more (length (drop 1 text)) (length text) _ (drop-within 1 text) (hex_escape-leaves (hex_len (first text)) (drop 1 text)) in
    let letter = leaves_value (length text) (λ (c : ℕ). c) (drop 1 text) (simple_escape (first text)) (drop-within 1 text) in
    search (steps, hex, letter)

escape-leaves : (multi : Bool) (text : List ℕ) → Leaves (length text) (escape multi text)
unfolding escape
escape-leaves multi text =
    let cut = skip_from-within false false text in
    let char = leaves_map (length text) encode_utf8 (escape_char text) (escape_char-leaves text) in
    leaves_either (length text) (multi && starts_newline (skip_ws text)) (Some ([], skip_lines text)) (option_map (λ p. (encode_utf8 p.0, p.1)) (escape_char text)) (record { few = cut }) char

at_delims-leaves : (delim : ℕ) (text : List ℕ) → Leaves (length text) (at_delims delim text)
at_delims-leaves delim text = search steps

special-leaves : (delim : ℕ) (multi : Bool) (text : List ℕ) → Leaves (length text) (special delim multi text)
unfolding special
special-leaves delim multi text =
    let escaped = leaves_more (length (drop 1 text)) (length text) _ (drop-within 1 text) (escape-leaves multi (drop 1 text)) in
    let slash = leaves_map (length text) Some (escape multi (drop 1 text)) escaped in
    let ended : Leaves {A = Option (List ℕ)} (length text) (Some (None, drop 1 text)) = record { few = drop-within 1 text } in
    let newline : Leaves {A = Option (List ℕ)} (length text) (Some (Some (first text ∷ []), drop 1 text)) = record { few = drop-within 1 text } in
    leaves_either (length text) (first text == delim) (if multi then at_delims delim text else Some (None, drop 1 text)) _
    (leaves_either (length text) multi (at_delims delim text) (Some (None, drop 1 text)) (at_delims-leaves delim text) ended)
    (leaves_either (length text) (first text == 92) (option_map (λ p. (Some p.0, p.1)) (escape multi (drop 1 text))) (if multi && starts_newline text then Some (Some (first text ∷ []), drop 1 text) else None)
    slash (leaves_either (length text) (multi && starts_newline text) (Some (Some (first text ∷ []), drop 1 text)) None newline (record { few = tt })))

piece-leaves : (m : ℕ) (more : List ℕ → Read (List ℕ)) (o : Option (List ℕ)) (rest : List ℕ) → length rest ≤ m → ((text : List ℕ) → Leaves (length text) (more text)) → Leaves m (after_piece more o rest)
piece-leaves m more None rest few h = record { few = few }
piece-leaves m more (Some bytes) rest few h = leaves_map m (λ x. bytes ++ x) (more rest) (leaves_more (length rest) m _ few (h rest))

body-leaves : (delim : ℕ) (multi : Bool) (n : ℕ) (text : List ℕ) → Leaves (length text) (body delim multi n text)
unfolding body
body-leaves delim multi zero text = record { few = tt }
body-leaves delim multi (suc n) text =
    let plain = leaves_map (length text) (λ x. first text ∷ [] ++ x) _ (leaves_more (length (drop 1 text)) (length text) _ (drop-within 1 text) (body-leaves delim multi n (drop 1 text))) in
    let other = leaves_then (length text) (special delim multi text) (λ p. after_piece (body delim multi n) p.0 p.1) (special-leaves delim multi text) (λ p few. piece-leaves (length text) (body delim multi n) p.0 p.1 few (body-leaves delim multi n)) in
    search (steps, plain, other)

trim_newline-within : (text : List ℕ) → length (trim_newline text) ≤ length text
trim_newline-within text = either_within (first text == line_feed) (drop 1 text) _ (drop-within 1 text) (either_within (starts_newline text) (drop 2 text) text (drop-within 2 text) (omega arith))
  where
    either_within : (b : Bool) (x y : List ℕ) → length x ≤ length text → length y ≤ length text → length (if b then x else y) ≤ length text
    either_within true x y hx hy = hx
    either_within false x y hx hy = hy

one_line-leaves : (text : List ℕ) → Leaves (length text) (one_line text)
unfolding one_line
one_line-leaves text = leaves_more (length (drop 1 text)) (length text) _ (drop-within 1 text) (body-leaves (first text) false (length text) (drop 1 text))

quoted-leaves : (text : List ℕ) → Leaves (length text) (quoted text)
unfolding quoted
quoted-leaves text =
    let three = leaves_more (length (trim_newline (drop 3 text))) (length text) _ (omega (arith, trim_newline-within (drop 3 text), drop-within 3 text)) (body-leaves (first text) true (length text) (trim_newline (drop 3 text))) in
    leaves_either (length text) (slice_index text 1 == first text && slice_index text 2 == first text) (body (first text) true (length text) (trim_newline (drop 3 text))) (one_line text) three (one_line-leaves text)

simple_key-leaves : (text : List ℕ) → Leaves (length text) (simple_key text)
unfolding simple_key
simple_key-leaves text = search (steps, one_line-leaves)

key_after-leaves : (n : ℕ) (path : List (List ℕ)) (text : List ℕ) → Leaves (length text) (key_after n path text)
unfolding key_after
key_after-leaves zero path text = record { few = tt }
key_after-leaves (suc n) path text = leaves_then (length text) (simple_key text) _ (simple_key-leaves text) (λ part few.
    let rest : length (skip_ws part.1) ≤ length text = omega (arith, skip_ws-within part.1) in
    let next : length (skip_ws (drop 1 (skip_ws part.1))) ≤ length text = omega (arith, skip_ws-within (drop 1 (skip_ws part.1)), drop-within 1 (skip_ws part.1)) in
    let more = leaves_more (length (skip_ws (drop 1 (skip_ws part.1)))) (length text) _ next (key_after-leaves n (path ++ part.0 ∷ []) (skip_ws (drop 1 (skip_ws part.1)))) in
    leaves_either (length text) (first (skip_ws part.1) == 46) (key_after n (path ++ part.0 ∷ []) (skip_ws (drop 1 (skip_ws part.1)))) (Some ((path, part.0), skip_ws part.1)) more (record { few = rest }))

key-leaves : (text : List ℕ) → Leaves (length text) (key text)
key-leaves text = key_after-leaves 80 [] text

-- ---- values

after_byte-leaves : (byte : ℕ) (text : List ℕ) → LeavesRest (length text) (after_byte byte text)
after_byte-leaves byte text = go (first text == byte)
  where
    go : (b : Bool) → LeavesRest (length text) (if b then Some (drop 1 text) else None)
    go true = record { few = drop-within 1 text }
    go false = record { few = tt }

after_element-leaves : (closing : ℕ) (text : List ℕ) → LeavesRest (length text) (after_element closing text)
unfolding after_element
after_element-leaves closing text = go (first (skip_blank text) == comma) (first (skip_blank text) == closing)
  where
    go : (b c : Bool) → LeavesRest (length text) (if b then Some (drop 1 (skip_blank text)) else if c then Some (skip_blank text) else None)
    go true c = record { few = omega (arith, drop-within 1 (skip_blank text), skip_blank-within text) }
    go false true = record { few = skip_blank-within text }
    go false false = record { few = tt }

leaves_rest_then : {B : Type 0} (n : ℕ) (o : Option (List ℕ)) (g : List ℕ → Read B) → LeavesRest n o → ((rest : List ℕ) → length rest ≤ n → Leaves n (g rest)) → Leaves n (option_and_then g o)
leaves_rest_then n None g h more = record { few = tt }
leaves_rest_then n (Some rest) g h more = more rest h.few

rest_more : (n m : ℕ) (o : Option (List ℕ)) → n ≤ m → LeavesRest n o → LeavesRest m o
rest_more n m None few h = record { few = tt }
rest_more n m (Some rest) few h = record { few = omega (arith, h.few) }

rest_map : (n : ℕ) (f : List ℕ → List ℕ) (o : Option (List ℕ)) → ((rest : List ℕ) → length (f rest) ≤ length rest) → LeavesRest n o → LeavesRest n (option_map f o)
rest_map n f None short h = record { few = tt }
rest_map n f (Some rest) short h = record { few = omega (arith, short rest, h.few) }

pub key_equals-leaves : (text : List ℕ) → Leaves (length text) (key_equals text)
unfolding key_equals
key_equals-leaves text = leaves_then (length text) (key text) _ (key-leaves text) (λ k few. go k.0 (after_byte equals k.1) (rest_more (length k.1) (length text) _ few (after_byte-leaves equals k.1)))
  where
    go : (k : Key) (o : Option (List ℕ)) → LeavesRest (length text) o → Leaves (length text) (option_map (λ rest. (k, skip_ws rest)) o)
    go k None h = record { few = tt }
    go k (Some rest) h = record { few = omega (arith, skip_ws-within rest, h.few) }

-- a reader of values
abbrev pub ValuesLeave : (List ℕ → Read Data) → Type 0
ValuesLeave val = (text : List ℕ) → Leaves (length text) (val text)

keyval-leaves : (val : List ℕ → Read Data) → ValuesLeave val → (text : List ℕ) → Leaves (length text) (keyval val text)
keyval-leaves val h text = leaves_then (length text) (key_equals text) _ (key_equals-leaves text) (λ k few. leaves_map (length text) (λ d. (k.0, d)) (val k.1) (leaves_more (length k.1) (length text) _ few (h k.1)))

items-leaves : (val : List ℕ → Read Data) → ValuesLeave val → (n : ℕ) (found : Items) (text : List ℕ) → Leaves (length text) (items val n found text)
unfolding items
items-leaves val h zero found text = record { few = tt }
items-leaves val h (suc n) found text =
    let start = skip_blank text in
    let blank : length start ≤ length text = skip_blank-within text in
    let closed : length (drop 1 start) ≤ length text = omega (arith, drop-within 1 start) in
    let value = leaves_more (length start) (length text) (val start) blank (h start) in
    let more = leaves_then (length text) (val start) (λ v. option_and_then (items val n (push_item found v.0)) (after_element 93 v.1)) value
    (λ v few. leaves_rest_then (length text) (after_element 93 v.1) (items val n (push_item found v.0)) (rest_more (length v.1) (length text) _ few (after_element-leaves 93 v.1))
    (λ rest short. leaves_more (length rest) (length text) _ short (items-leaves val h n (push_item found v.0) rest))) in
    leaves_either (length text) (first start == 93) (Some (found, drop 1 start)) (option_and_then (λ v. option_and_then (items val n (push_item found v.0)) (after_element 93 v.1)) (val start)) (record { few = closed }) more

nodes_then : {B : Type 0} (n : ℕ) (o : Option Nodes) (g : Nodes → Read B) → ((x : Nodes) → Leaves n (g x)) → Leaves n (option_and_then g o)
nodes_then n None g h = record { few = tt }
nodes_then n (Some x) g h = h x

members-leaves : (val : List ℕ → Read Data) → ValuesLeave val → (n : ℕ) (found : Nodes) (text : List ℕ) → Leaves (length text) (members val n found text)
unfolding members
members-leaves val h zero found text = record { few = tt }
members-leaves val h (suc n) found text =
    let start = skip_blank text in
    let blank : length start ≤ length text = skip_blank-within text in
    let closed : length (drop 1 start) ≤ length text = omega (arith, drop-within 1 start) in
    let pair = leaves_more (length start) (length text) (keyval val start) blank (keyval-leaves val h start) in
    let more = leaves_then (length text) (keyval val start) (λ e. option_and_then (λ next. option_and_then (members val n next) (after_element 125 e.1)) (put e.0.0 e.0.1 found)) pair
    (λ e few. nodes_then (length text) (put e.0.0 e.0.1 found) (λ next. option_and_then (members val n next) (after_element 125 e.1)) (λ next.
    leaves_rest_then (length text) (after_element 125 e.1) (members val n next) (rest_more (length e.1) (length text) _ few (after_element-leaves 125 e.1))
    (λ rest short. leaves_more (length rest) (length text) _ short (members-leaves val h n next rest)))) in
    leaves_either (length text) (first start == 125) (Some (close found, drop 1 start)) (option_and_then (λ e. option_and_then (λ next. option_and_then (members val n next) (after_element 125 e.1)) (put e.0.0 e.0.1 found)) (keyval val start)) (record { few = closed }) more

unquoted-leaves : (text : List ℕ) → Leaves (length text) (unquoted text)
unfolding unquoted
unquoted-leaves text =
    let word = leaves_value (length text) (λ (d : Scalar). d) (drop (word_len text) text) (word_value (take (word_len text) text)) (drop-within (word_len text) text) in
    leaves_either (length text) (word_len text == 0) None (option_map (λ d. (d, drop (word_len text) text)) (word_value (take (word_len text) text))) (record { few = tt }) word

atom-leaves : (text : List ℕ) → Leaves (length text) (atom text)
unfolding atom
atom-leaves text =
    let written = leaves_map (length text) string (quoted text) (quoted-leaves text) in
    let word = leaves_map (length text) scalar_data (unquoted text) (unquoted-leaves text) in
    search (steps, written, word)

pub val-leaves : (depth : ℕ) → ValuesLeave (val depth)
unfolding val
val-leaves zero text = atom-leaves text
val-leaves (suc depth) text =
    let few = drop-within 1 text in
    let list = leaves_map (length text) array _ (leaves_more (length (drop 1 text)) (length text) _ few (items-leaves (val depth) (val-leaves depth) (length text) no_items (drop 1 text))) in
    let inline = leaves_map (length text) table _ (leaves_more (length (drop 1 text)) (length text) _ few (members-leaves (val depth) (val-leaves depth) (length text) no_nodes (drop 1 text))) in
    let either = leaves_either (length text) (first text == 123) (option_map (λ p. (table p.0, p.1)) (members (val depth) (length text) no_nodes (drop 1 text))) (atom text) inline (atom-leaves text) in
    leaves_either (length text) (first text == 91) (option_map (λ p. (array p.0, p.1)) (items (val depth) (length text) no_items (drop 1 text))) _ list either

-- ---- expressions

header_key-leaves : (text : List ℕ) → Leaves (length text) (header_key text)
unfolding header_key
header_key-leaves text =
    leaves_then (length text) (key (skip_ws text)) _ (leaves_more (length (skip_ws text)) (length text) _ (skip_ws-within text) (key-leaves (skip_ws text)))
    (λ k few. leaves_rest (length text) k.0 (after_byte 93 k.1) (rest_more (length k.1) (length text) _ few (after_byte-leaves 93 k.1)))

expression-leaves : (text : List ℕ) → Leaves (length text) (expression text)
unfolding expression
expression-leaves text =
    let two = leaves_more (length (drop 2 text)) (length text) _ (drop-within 2 text) (header_key-leaves (drop 2 text)) in
    let tables = leaves_then (length text) (header_key (drop 2 text)) (λ k. option_map (λ rest. ((k.0, array_table), rest)) (after_byte 93 k.1)) two
    (λ k few. leaves_rest (length text) (k.0, array_table) (after_byte 93 k.1) (rest_more (length k.1) (length text) _ few (after_byte-leaves 93 k.1))) in
    let one = leaves_map (length text) (λ (k : Key). (k, std_table)) (header_key (drop 1 text)) (leaves_more (length (drop 1 text)) (length text) _ (drop-within 1 text) (header_key-leaves (drop 1 text))) in
    let pair = leaves_map (length text) (λ (p : Key × Data). (p.0, key_value p.1)) (keyval (val 80) text) (keyval-leaves (val 80) (val-leaves 80) text) in
    let either = leaves_either (length text) (first text == 91) (option_map (λ p. ((p.0, std_table), p.1)) (header_key (drop 1 text))) (option_map (λ p. ((p.0.0, key_value p.0.1), p.1)) (keyval (val 80) text)) one pair in
    leaves_either (length text) (first text == 91 && slice_index text 1 == 91) (option_and_then (λ k. option_map (λ rest. ((k.0, array_table), rest)) (after_byte 93 k.1)) (header_key (drop 2 text))) _ tables either

pub line-leaves : (text : List ℕ) → Leaves (length text) (line text)
unfolding line
line-leaves text = leaves_then (length text) (expression text) _ (expression-leaves text) (λ e few. leaves_either (length text) (ends_line (skip_ws e.1)) (Some e) None (record { few = few }) (record { few = tt }))
