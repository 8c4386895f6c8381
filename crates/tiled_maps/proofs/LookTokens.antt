-- Lexemes from which JSON is read that needs nothing set aside.
use Rattle.std.proofs.Common.{◌≡◌, ℕ, zero, suc, Bool, true, false, List, [], ◌∷◌, length, Option, Some, None, option_and_then, refl, subst}
use Rattle.json.specs.Token.{Token, begin_object, end_object, begin_array, end_array, key, string, number, boolean, null, bad}
use Rattle.json.specs.Lex.{Lexeme, token, comma, colon, Place, fresh, after_value, after_comma, after_key, begins_colon, may_begin, may_close, if_allowed}
use Rattle.json.specs.Lex.{place_token, punctuate, lex, between, tokens}
use Rattle.json.specs.Json.{Json, array, object, Items, item, Members, member, Parse, parse_map, after_end_array, read_key, items_step, members_step, items}
use Rattle.json.specs.Json.{members, value_with, value, if_last}
use Rattle.serde_json.specs.Data.{Data}
use Rattle.serde_json.specs.Read.{of_json, max_depth}
use Rattle.tiled_maps.specs.Look.{NeedsNothing, TextNeedsNothing}
use Rattle.tiled_maps.specs.Lexemes.{infinite, IsWhole, IsOwnName, BeginFalse, AreFalse, BeginEmpty, AreEmpty, First, ArePlain}
use Rattle.tiled_maps.specs.Packed.{compression}
use Rattle.tiled_maps.proofs.LookTree.{Fits, IsPlain, ArePlainItems, ArePlainMembers, IsPlain-NeedsNothing}

-- ---- tokens
abbrev BeginNotTrue : List Token → Type 0
BeginNotTrue [] = Unit {0}
BeginNotTrue (begin_object ∷ ts) = Unit {0}
BeginNotTrue (end_object ∷ ts) = Unit {0}
BeginNotTrue (begin_array ∷ ts) = Unit {0}
BeginNotTrue (end_array ∷ ts) = Unit {0}
BeginNotTrue (key s ∷ ts) = Unit {0}
BeginNotTrue (string s ∷ ts) = Unit {0}
BeginNotTrue (number s ∷ ts) = Unit {0}
BeginNotTrue (boolean true ∷ ts) = ⊥
BeginNotTrue (boolean false ∷ ts) = Unit {0}
BeginNotTrue (null ∷ ts) = Unit {0}
BeginNotTrue (bad ∷ ts) = Unit {0}

abbrev BeginsEmpty : List Token → Type 0
BeginsEmpty [] = Unit {0}
BeginsEmpty (begin_object ∷ ts) = Unit {0}
BeginsEmpty (end_object ∷ ts) = Unit {0}
BeginsEmpty (begin_array ∷ ts) = Unit {0}
BeginsEmpty (end_array ∷ ts) = Unit {0}
BeginsEmpty (key s ∷ ts) = Unit {0}
BeginsEmpty (string s ∷ ts) = s ≡ []
BeginsEmpty (number s ∷ ts) = Unit {0}
BeginsEmpty (boolean b ∷ ts) = Unit {0}
BeginsEmpty (null ∷ ts) = Unit {0}
BeginsEmpty (bad ∷ ts) = Unit {0}

-- a value begins that the member of this name may have
abbrev Begins : List ℕ → List Token → Type 0
Begins k ts = (k ≡ infinite → BeginNotTrue ts) × (k ≡ compression → BeginsEmpty ts)

abbrev IsPlainKey : List ℕ → List Token → Type 0
IsPlainKey s ts = IsOwnName s × Begins s ts

abbrev Tokens : List Token → Type 0
Tokens [] = Unit {0}
Tokens (begin_object ∷ ts) = Tokens ts
Tokens (end_object ∷ ts) = Tokens ts
Tokens (begin_array ∷ ts) = Tokens ts
Tokens (end_array ∷ ts) = Tokens ts
Tokens (key s ∷ ts) = IsPlainKey s ts × Tokens ts
Tokens (string s ∷ ts) = Tokens ts
Tokens (number s ∷ ts) = IsWhole s × Tokens ts
Tokens (boolean b ∷ ts) = Tokens ts
Tokens (null ∷ ts) = Tokens ts
Tokens (bad ∷ ts) = Unit {0}

-- after the key the colon, and then the value
begins_value : (ls : List Lexeme) → BeginFalse ls → BeginNotTrue (punctuate fresh ls)
unfolding punctuate
begins_value [] h = absurd h
begins_value (token begin_object ∷ ls) h = absurd h
begins_value (token end_object ∷ ls) h = absurd h
begins_value (token begin_array ∷ ls) h = absurd h
begins_value (token end_array ∷ ls) h = absurd h
begins_value (token (key s) ∷ ls) h = absurd h
begins_value (token (string s) ∷ ls) h = absurd h
begins_value (token (number s) ∷ ls) h = absurd h
begins_value (token (boolean true) ∷ ls) h = absurd h
begins_value (token (boolean false) ∷ ls) h = tt
begins_value (token null ∷ ls) h = absurd h
begins_value (token bad ∷ ls) h = tt
begins_value (comma ∷ ls) h = absurd h
begins_value (colon ∷ ls) h = absurd h

placed_empty : (b : Bool) (k : Place → List Token) → BeginsEmpty (place_token fresh (string []) b k)
placed_empty true k = tt
placed_empty false k = refl

begins_empty : (ls : List Lexeme) → BeginEmpty ls → BeginsEmpty (punctuate fresh ls)
unfolding punctuate
begins_empty [] h = absurd h
begins_empty (token begin_object ∷ ls) h = absurd h
begins_empty (token end_object ∷ ls) h = absurd h
begins_empty (token begin_array ∷ ls) h = absurd h
begins_empty (token end_array ∷ ls) h = absurd h
begins_empty (token (key s) ∷ ls) h = absurd h
begins_empty (token (string []) ∷ ls) h = placed_empty (begins_colon ls) (λ n. punctuate n ls)
begins_empty (token (string (c ∷ s)) ∷ ls) h = absurd h
begins_empty (token (number s) ∷ ls) h = absurd h
begins_empty (token (boolean b) ∷ ls) h = absurd h
begins_empty (token null ∷ ls) h = absurd h
begins_empty (token bad ∷ ls) h = absurd h
begins_empty (comma ∷ ls) h = absurd h
begins_empty (colon ∷ ls) h = absurd h

follows_key : (ls : List Lexeme) → AreFalse ls → BeginNotTrue (punctuate after_key ls)
unfolding punctuate
follows_key [] h = absurd h
follows_key (token t ∷ ls) h = absurd h
follows_key (comma ∷ ls) h = absurd h
follows_key (colon ∷ ls) h = begins_value ls h

empty_follows : (ls : List Lexeme) → AreEmpty ls → BeginsEmpty (punctuate after_key ls)
unfolding punctuate
empty_follows [] h = absurd h
empty_follows (token t ∷ ls) h = absurd h
empty_follows (comma ∷ ls) h = absurd h
empty_follows (colon ∷ ls) h = begins_empty ls h

allowed : (b : Bool) (t : Token) (k : Place → List Token) (next : Place) → Tokens (t ∷ k next) → Tokens (if_allowed b t k next)
allowed true t k next h = h
allowed false t k next h = tt

placed : (p : Place) (t : Token) (b : Bool) (ls : List Lexeme) → First t ls (ArePlain ls) → ((n : Place) → ArePlain ls → Tokens (punctuate n ls))
    → Tokens (place_token p t b (λ n. punctuate n ls))
placed p begin_object b ls h k = allowed (may_begin p) begin_object (λ n. punctuate n ls) fresh (k fresh h)
placed p end_object b ls h k = allowed (may_close p) end_object (λ n. punctuate n ls) after_value (k after_value h)
placed p begin_array b ls h k = allowed (may_begin p) begin_array (λ n. punctuate n ls) fresh (k fresh h)
placed p end_array b ls h k = allowed (may_close p) end_array (λ n. punctuate n ls) after_value (k after_value h)
placed p (key s) b ls h k = tt
placed p (string s) true ls h k =
    allowed (may_begin p) (key s) (λ n. punctuate n ls) after_key
    ((h.0.0, (λ e. follows_key ls (h.0.1 e), λ e. empty_follows ls (h.0.2 e))), k after_key h.1)
placed p (string s) false ls h k = allowed (may_begin p) (string s) (λ n. punctuate n ls) after_value (k after_value h.1)
placed p (number s) b ls h k = allowed (may_begin p) (number s) (λ n. punctuate n ls) after_value (h.0, k after_value h.1)
placed p (boolean v) b ls h k = allowed (may_begin p) (boolean v) (λ n. punctuate n ls) after_value (k after_value h)
placed p null b ls h k = allowed (may_begin p) null (λ n. punctuate n ls) after_value (k after_value h)
placed p bad b ls h k = tt

Tokens-punctuate : (ls : List Lexeme) (p : Place) → ArePlain ls → Tokens (punctuate p ls)
unfolding punctuate
Tokens-punctuate [] fresh h = tt
Tokens-punctuate [] after_value h = tt
Tokens-punctuate [] after_comma h = tt
Tokens-punctuate [] after_key h = tt
Tokens-punctuate (token t ∷ ls) p h = placed p t (begins_colon ls) ls h (Tokens-punctuate ls)
Tokens-punctuate (comma ∷ ls) fresh h = tt
Tokens-punctuate (comma ∷ ls) after_value h = Tokens-punctuate ls after_comma h
Tokens-punctuate (comma ∷ ls) after_comma h = tt
Tokens-punctuate (comma ∷ ls) after_key h = tt
Tokens-punctuate (colon ∷ ls) fresh h = tt
Tokens-punctuate (colon ∷ ls) after_value h = tt
Tokens-punctuate (colon ∷ ls) after_comma h = tt
Tokens-punctuate (colon ∷ ls) after_key h = Tokens-punctuate ls fresh h

-- ---- values
abbrev Gives : {A : Type 0} → (A → Type 0) → Option (A × List Token) → Type 0
Gives Q None = Unit {0}
Gives Q (Some p) = Q p.0 × Tokens p.1

abbrev Keeps : {A : Type 0} → (A → Type 0) → Parse A → Type 0
Keeps Q p = (ts : List Token) → Tokens ts → Gives Q (p ts)

-- what is read as the value of a member of that name fits it
abbrev Values : List ℕ → Option (Json × List Token) → Type 0
Values k None = Unit {0}
Values k (Some p) = Fits k p.0

abbrev GivesFit : Parse Json → Type 0
GivesFit p = (k : List ℕ) (ts : List Token) → Begins k ts → Values k (p ts)

mapped : {A B : Type 0} (P : A → Type 0) (Q : B → Type 0) (f : A → B) → ((a : A) → P a → Q (f a)) → (o : Option (A × List Token)) → Gives P o
    → Gives Q (parse_map f o)
mapped P Q f g None h = tt
mapped P Q f g (Some p) h = (g p.0 h.0, h.1)

array_fits : (k : List ℕ) (o : Option (Items × List Token)) → Values k (parse_map array o)
array_fits k None = tt
array_fits k (Some p) = tt

object_fits : (k : List ℕ) (o : Option (Members × List Token)) → Values k (parse_map object o)
object_fits k None = tt
object_fits k (Some p) = tt

item_more : (more : Parse Items) → Keeps ArePlainItems more → (o : Option (Json × List Token)) → Gives IsPlain o
    → Gives ArePlainItems (option_and_then (λ q. parse_map (item q.0) (more q.1)) o)
item_more more keeps None h = tt
item_more more keeps (Some q) h = mapped ArePlainItems ArePlainItems (item q.0) (λ js x. (h.0, x)) (more q.1) (keeps q.1 h.1)

member_more : (k : List ℕ) → IsOwnName k → (more : Parse Members) → Keeps ArePlainMembers more → (o : Option (Json × List Token))
    → Values k o → Gives IsPlain o
    → Gives ArePlainMembers (option_and_then (λ q. parse_map (member k q.0) (more q.1)) o)
member_more k n more keeps None t h = tt
member_more k n more keeps (Some q) t h = mapped ArePlainMembers ArePlainMembers (member k q.0) (λ ms x. ((n, t), h.0, x)) (more q.1) (keeps q.1 h.1)

abbrev Rest : Option (List Token) → Type 0
Rest None = Unit {0}
Rest (Some r) = Tokens r

closing : (ts : List Token) → Tokens ts → Rest (after_end_array ts)
closing [] h = tt
closing (begin_object ∷ ts) h = tt
closing (end_object ∷ ts) h = tt
closing (begin_array ∷ ts) h = tt
closing (end_array ∷ ts) h = h
closing (key s ∷ ts) h = tt
closing (string s ∷ ts) h = tt
closing (number s ∷ ts) h = tt
closing (boolean v ∷ ts) h = tt
closing (null ∷ ts) h = tt
closing (bad ∷ ts) h = tt

abbrev Key : Option (Option (List ℕ) × List Token) → Type 0
Key None = Unit {0}
Key (Some (None, ts)) = Tokens ts
Key (Some (Some k, ts)) = IsPlainKey k ts × Tokens ts

naming : (ts : List Token) → Tokens ts → Key (read_key ts)
naming [] h = tt
naming (begin_object ∷ ts) h = tt
naming (end_object ∷ ts) h = h
naming (begin_array ∷ ts) h = tt
naming (end_array ∷ ts) h = tt
naming (key s ∷ ts) h = h
naming (string s ∷ ts) h = tt
naming (number s ∷ ts) h = tt
naming (boolean v ∷ ts) h = tt
naming (null ∷ ts) h = tt
naming (bad ∷ ts) h = tt

module _ (p : Parse Json) (keeps : Keeps IsPlain p) (fit : GivesFit p) where
  item_turn : (more : Parse Items) → Keeps ArePlainItems more → (ts : List Token) → Tokens ts → (o : Option (List Token)) → Rest o
      → Gives ArePlainItems (items_step p more ts o)
  item_turn more again ts h (Some r) q = (tt, q)
  item_turn more again ts h None q = item_more more again (p ts) (keeps ts h)

  Keeps-items : (n : ℕ) → Keeps ArePlainItems (items p n)
  unfolding items
  Keeps-items zero ts h = tt
  Keeps-items (suc n) ts h = item_turn (items p n) (Keeps-items n) ts h (after_end_array ts) (closing ts h)

  member_turn : (more : Parse Members) → Keeps ArePlainMembers more → (o : Option (Option (List ℕ) × List Token)) → Key o
      → Gives ArePlainMembers (option_and_then (λ q. members_step p more q.0 q.1) o)
  member_turn more again None h = tt
  member_turn more again (Some (None, s)) h = (tt, h)
  member_turn more again (Some (Some k, s)) h = member_more k h.0.0 more again (p s) (fit k s h.0.1) (keeps s h.1)

  Keeps-members : (n : ℕ) → Keeps ArePlainMembers (members p n)
  unfolding members
  Keeps-members zero ts h = tt
  Keeps-members (suc n) ts h = member_turn (members p n) (Keeps-members n) (read_key ts) (naming ts h)

GivesFit-value_with : (a : Parse Items) (o : Parse Members) → GivesFit (value_with a o)
GivesFit-value_with a o k [] h = tt
GivesFit-value_with a o k (begin_object ∷ ts) h = object_fits k (o ts)
GivesFit-value_with a o k (end_object ∷ ts) h = tt
GivesFit-value_with a o k (begin_array ∷ ts) h = array_fits k (a ts)
GivesFit-value_with a o k (end_array ∷ ts) h = tt
GivesFit-value_with a o k (key s ∷ ts) h = tt
GivesFit-value_with a o k (string s ∷ ts) h = h.1
GivesFit-value_with a o k (number s ∷ ts) h = tt
GivesFit-value_with a o k (boolean true ∷ ts) h = h.0
GivesFit-value_with a o k (boolean false ∷ ts) h = tt
GivesFit-value_with a o k (null ∷ ts) h = tt
GivesFit-value_with a o k (bad ∷ ts) h = tt

GivesFit-value : (depth : ℕ) → GivesFit (value depth)
unfolding value
GivesFit-value zero = GivesFit-value_with (λ ts. None) (λ ts. None)
GivesFit-value (suc d) = GivesFit-value_with (λ ts. items (value d) (length ts) ts) (λ ts. members (value d) (length ts) ts)

Keeps-value_with : (a : Parse Items) (o : Parse Members) → Keeps ArePlainItems a → Keeps ArePlainMembers o → Keeps IsPlain (value_with a o)
Keeps-value_with a o p q [] h = tt
Keeps-value_with a o p q (begin_object ∷ ts) h = mapped ArePlainMembers IsPlain object (λ m x. x) (o ts) (q ts h)
Keeps-value_with a o p q (end_object ∷ ts) h = tt
Keeps-value_with a o p q (begin_array ∷ ts) h = mapped ArePlainItems IsPlain array (λ m x. x) (a ts) (p ts h)
Keeps-value_with a o p q (end_array ∷ ts) h = tt
Keeps-value_with a o p q (key s ∷ ts) h = tt
Keeps-value_with a o p q (string s ∷ ts) h = (tt, h)
Keeps-value_with a o p q (number s ∷ ts) h = h
Keeps-value_with a o p q (boolean v ∷ ts) h = (tt, h)
Keeps-value_with a o p q (null ∷ ts) h = (tt, h)
Keeps-value_with a o p q (bad ∷ ts) h = tt

Keeps-value : (depth : ℕ) → Keeps IsPlain (value depth)
unfolding value
Keeps-value zero = Keeps-value_with (λ ts. None) (λ ts. None) (λ ts h. tt) (λ ts h. tt)
Keeps-value (suc d) =
    Keeps-value_with (λ ts. items (value d) (length ts) ts) (λ ts. members (value d) (length ts) ts)
    (λ ts. Keeps-items (value d) (Keeps-value d) (GivesFit-value d) (length ts) ts)
    (λ ts. Keeps-members (value d) (Keeps-value d) (GivesFit-value d) (length ts) ts)

abbrev If : Option Data → Type 0
If None = Unit {0}
If (Some d) = NeedsNothing d

read_of : (j : Json) (o : Option Data) → IsPlain j → of_json j ≡ o → If o
read_of j None h e = tt
read_of j (Some d) h e = IsPlain-NeedsNothing j d h e

last : (o : Option (Json × List Token)) → Gives IsPlain o → If (option_and_then of_json (option_and_then (λ p. if_last p.0 p.1) o))
last None h = tt
last (Some (j, [])) h = read_of j (of_json j) h.0 refl
last (Some (j, t ∷ ts)) h = tt

pub ArePlain-TextNeedsNothing : (text : List ℕ) → ArePlain (lex between text) → TextNeedsNothing text
ArePlain-TextNeedsNothing text h d e = subst If e (last _ (Keeps-value max_depth (tokens text) (Tokens-punctuate (lex between text) fresh h)))
