mod CounterLemmas
