-- A word is put on the stack without its flow collection, whose value is filled in behind.
use Rattle.std.specs.Prelude.{List, [], ◌∷◌, ◌++◌, Option, Some, None, Ok}
use Rattle.rvs_tree.specs.Value.{Value}
use Rattle.rvs_yaml_text.specs.Word.{Bracket, Token, Content, text, flow, Shape, key, leaf, Word}
use Rattle.rvs_yaml.specs.Checks.{Checked, ◌>>=◌}
use Rattle.rvs_yaml.specs.Flow.{flow_value}
use Rattle.rvs_yaml.specs.Stack.{Open, known_of}

-- the bracket of a flow collection, and the tokens behind it
abbrev pub Flow : Type 0
Flow = Option (Bracket × List Token)

abbrev pub flow_in : Content → Flow
flow_in (flow b tokens) = Some (b, tokens)
flow_in _ = None

abbrev pub flow_of : Shape → Flow
flow_of (key k a content) = flow_in content
flow_of (leaf content) = flow_in content
flow_of _ = None

-- an empty text in the place of a flow collection
abbrev pub hollow_content : Content → Content
hollow_content (flow b tokens) = text []
hollow_content content = content

abbrev pub hollow_shape : Shape → Shape
hollow_shape (key k a content) = key k a (hollow_content content)
hollow_shape (leaf content) = leaf (hollow_content content)
hollow_shape shape = shape

abbrev pub hollow : Word → Word
hollow w = record { line = w.line; column = w.column; shape = hollow_shape w.shape }

abbrev pub with_own : Open → Value → Open
with_own b own = record {
  line = b.line;
  column = b.column;
  done = b.done;
  anchors = b.anchors;
  head = b.head;
  own = own;
}

-- the value of a flow collection, as that of the last word of the block on top
abbrev pub filled : Flow → List Open → Checked (List Open)
filled None bs = Ok bs
filled (Some f) [] = Ok []
filled (Some f) (b ∷ bs) =
    flow_value (b.anchors ++ known_of bs) b.head.line f.0 f.1 >>= λ own. Ok (with_own b own ∷ bs)
